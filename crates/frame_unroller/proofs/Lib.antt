pub mod Members
pub mod Order
pub mod Wires
pub mod Copies
pub mod Built
pub mod SharedVariables
pub mod NoClauseLost
pub mod CopyClauses
pub mod TimeCopies
pub mod ClauseCounts
pub mod UnrollRefusals
pub mod Rules
mod Examples
