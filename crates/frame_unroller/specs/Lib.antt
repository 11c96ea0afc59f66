pub mod Times
pub mod Frames
pub mod Diagnosis
pub mod Unrolling
pub mod inner
