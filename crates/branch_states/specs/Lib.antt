pub mod Branches
pub mod inner
