-- What only private contracts cite.
pub mod Marks
pub mod Rows
pub mod Presumed
pub mod Filled
