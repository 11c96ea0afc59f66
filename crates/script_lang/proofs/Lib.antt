pub mod LineLemmas
pub mod Asked
pub mod AskedLemmas
mod WordLemmas
mod Examples
