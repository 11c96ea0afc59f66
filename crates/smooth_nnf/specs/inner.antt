-- Definitions that only private contracts cite.
pub mod Sets
pub mod Drawings
pub mod Texts
