mod HeldLiterals
mod Lines
mod Literals
mod WantedBits
pub mod Projected
