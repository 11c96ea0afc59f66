pub mod Words
pub mod ParsedTokens
pub mod FirstBrackets
pub mod Lines
pub mod Drivers
pub mod DrivenSignals
pub mod Twice
pub mod Parts
pub mod FirstFaults
pub mod FlipFlops
mod Examples
pub mod Rules
