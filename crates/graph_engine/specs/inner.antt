-- Definitions that only private contracts cite.
pub mod Bases
pub mod Held
