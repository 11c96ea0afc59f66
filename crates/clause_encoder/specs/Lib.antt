pub mod Clauses
pub mod Encoding
pub mod Replacing
pub mod inner
