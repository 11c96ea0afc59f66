pub mod FiveDigits
pub mod VariableNames
pub mod Law
