pub mod Rules
pub mod OneStep
pub mod FoundOrder
pub mod ChainSteps
pub mod Sums
