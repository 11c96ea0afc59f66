pub mod NextStates
pub mod Asked
mod Rooms
mod GraphSpellings
pub mod Offered
pub mod Written
pub mod Opened
pub mod Rules
