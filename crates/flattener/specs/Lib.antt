pub mod Flat
pub mod inner
