pub mod Spellings
pub mod Begun
pub mod Broken
pub mod LineFronts
pub mod Enumerated
pub mod GraphMeaning
pub mod KeptCases
pub mod Same
pub mod GraphReplies
pub mod CaseEvidence
pub mod ProbeEvidence
pub mod Locality
pub mod Alone
mod Examples
mod MoveExamples
mod GraphExamples
mod AloneExamples
