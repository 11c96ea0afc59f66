pub mod Numbers
pub mod PartSets
