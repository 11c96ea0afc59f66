pub mod Faults
pub mod Statements
pub mod Signals
pub mod Netlists
pub mod SequentialNetlists
pub mod inner
