pub mod Costs
pub mod Stored
pub mod LeastStates
pub mod inner
