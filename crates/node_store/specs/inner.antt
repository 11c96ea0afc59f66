-- What only private contracts cite.
pub mod Keeping
pub mod Freezing
pub mod Nearby
pub mod Literals
