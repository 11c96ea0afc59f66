mod Examples
pub mod RowSets
pub mod NameLists
pub mod Named
pub mod LineForms
pub mod Grown
pub mod SoundReaders
pub mod Rules
