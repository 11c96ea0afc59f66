-- What only private contracts cite.
pub mod Reading
pub mod Sharing
