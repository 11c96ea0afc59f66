pub mod NameOrder
pub mod Ordered
pub mod SortedLists
pub mod Repeats
pub mod Apart
pub mod DigitOrder
pub mod CallerLemmas
mod Steps
pub mod Tables
pub mod NamedGates
pub mod SortedDevices
pub mod Costs
pub mod WirePlaces
mod NameSearch
pub mod BuildAnswers
mod Examples
pub mod BuiltDevices
mod Rules
