pub mod Projecting
pub mod inner
