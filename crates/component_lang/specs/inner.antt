pub mod LineFaults
pub mod NameSets
pub mod Views
pub mod Sections
pub mod Sound
pub mod Words
