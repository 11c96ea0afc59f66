-- What only the private contracts of this crate cite.
pub mod Asking
pub mod Known
pub mod Weighing
pub mod Carrying
pub mod Listed
pub mod Cases
pub mod Levels
pub mod Reported
