pub mod Minimised
pub mod Small
pub mod inner
