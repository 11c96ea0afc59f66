-- Definitions that only private contracts cite.
pub mod CostSets
pub mod NodeSets
pub mod Searching
pub mod Pairs
pub mod FaultSets
pub mod Skips
