pub mod FittingEvidence
pub mod ModelsWith
pub mod StateBits
