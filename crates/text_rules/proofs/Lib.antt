pub mod PartLemmas
pub mod LineLemmas
pub mod TokenLemmas
pub mod NameLemmas
pub mod NumberLemmas
pub mod SpacedLines
mod Examples
