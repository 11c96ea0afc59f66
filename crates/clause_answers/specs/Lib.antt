pub mod Questions
pub mod inner
