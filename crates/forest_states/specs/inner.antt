pub mod BitLists
pub mod KeptStates
pub mod TransitionTables
pub mod Descents
pub mod Masked
