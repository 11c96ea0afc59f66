pub mod Searching
pub mod inner
