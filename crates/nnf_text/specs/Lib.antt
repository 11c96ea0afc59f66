pub mod GraphTexts
pub mod WrittenGraphs
pub mod Extending
pub mod StateGraphs
pub mod Refusals
pub mod inner
