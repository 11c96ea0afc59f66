pub mod TruthTable
pub mod Order
pub mod Gates
pub mod Devices
pub mod Diagnosis
pub mod Building
pub mod inner
