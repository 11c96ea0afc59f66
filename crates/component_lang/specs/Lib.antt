pub mod Designs
pub mod Kinds
pub mod TypeRows
pub mod DesignLines
pub mod Reading
pub mod Faults
pub mod inner
