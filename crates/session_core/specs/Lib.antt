pub mod Services
pub mod Serving
pub mod inner
