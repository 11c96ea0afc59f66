pub mod Searched
pub mod inner
