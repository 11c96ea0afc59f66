pub mod FailedWrites
pub mod ForestChoices
pub mod KeptRefusals
pub mod Statuses
