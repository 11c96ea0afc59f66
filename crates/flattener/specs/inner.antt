pub mod Counting
pub mod Expanding
