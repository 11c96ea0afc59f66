-- What only private contracts cite.
pub mod OpenMarks
pub mod Fixing
