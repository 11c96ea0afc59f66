pub mod Answers
pub mod Offered
