pub mod LaterLines
pub mod Fillers
pub mod DrawnMeaning
pub mod DrawnLines
pub mod WholeText
mod LackingParts
mod LinePlaces
mod WordParts
mod FilledTexts
mod LineLemmas
mod EdgeLemmas
pub mod PartBits
mod Examples
pub mod Rules
