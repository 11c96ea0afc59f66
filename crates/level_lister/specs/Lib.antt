pub mod Listing
pub mod Bits
pub mod inner
pub mod Passes
