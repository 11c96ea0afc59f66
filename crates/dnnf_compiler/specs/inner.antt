-- What only private contracts cite.
pub mod Joining
pub mod Making
pub mod Meeting
pub mod Placing
