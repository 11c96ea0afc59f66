pub mod Flat
pub mod Stores
pub mod inner
