pub mod Faults
pub mod OpenMarks
pub mod Allowing
pub mod Points
pub mod FixedParts
pub mod FirstAndNext
pub mod Settled
pub mod Rules
