pub mod Edge
pub mod InMemory
pub mod Adding
pub mod Sure
pub mod ErrorLines
pub mod inner
