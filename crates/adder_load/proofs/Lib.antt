pub mod Rules
pub mod Texts
pub mod NotedReadings
pub mod ListedDiagnoses
pub mod Cases
