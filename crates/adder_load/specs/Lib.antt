pub mod Adders
pub mod Readings
pub mod inner
