pub mod Rules
pub mod SetBits
pub mod Children
pub mod Stacks
pub mod JoinedSets
pub mod Flags
pub mod MissingNumbers
