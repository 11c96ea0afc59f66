pub mod Branches
pub mod Forests
pub mod Levels
pub mod Ways
