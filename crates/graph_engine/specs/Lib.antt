pub mod Served
pub mod inner
