pub mod Sizes
pub mod Layouts
pub mod inner
