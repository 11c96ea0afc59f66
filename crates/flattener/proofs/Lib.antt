pub mod Lists
pub mod Values
pub mod PathNames
pub mod Relative
pub mod DistinctPaths
pub mod Counted
pub mod ExpandedInstances
pub mod Totals
pub mod Arities
pub mod Built
mod Rules
