-- What only the private contracts of this crate cite.
pub mod Marks
pub mod Facts
pub mod Defined
