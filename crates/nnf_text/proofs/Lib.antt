mod Examples
pub mod Options
pub mod ReadTexts
pub mod LineSteps
pub mod LineTexts
pub mod Extended
pub mod ReadingBack
pub mod Sparse
pub mod Bits
pub mod ColumnWords
pub mod FirstShared
pub mod Rules
