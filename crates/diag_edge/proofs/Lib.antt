pub mod Added
pub mod GrownBytes
pub mod HeldFiles
pub mod ErrorLines
