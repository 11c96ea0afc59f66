pub mod Literals
pub mod RowBits
pub mod PartClauses
pub mod Settled
pub mod Chains
pub mod MentionedVariables
pub mod DeviceClauses
pub mod OtherVariables
pub mod WrittenClauses
pub mod ClauseCounts
pub mod Sizes
pub mod Rules
mod Examples
