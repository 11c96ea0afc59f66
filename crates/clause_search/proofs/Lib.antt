pub mod Clauses
pub mod Defined
pub mod Extended
pub mod Exhausted
