-- Definitions that only private contracts cite.
pub mod Bits
pub mod Compiling
pub mod Forms
pub mod Loading
pub mod Serving
