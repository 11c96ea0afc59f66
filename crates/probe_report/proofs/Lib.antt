pub mod ModelsWithBit
pub mod Blames
pub mod LoweredNumbers
pub mod Bits
pub mod Exits
pub mod Marks
pub mod Probed
pub mod Rules
