pub mod Asking
pub mod Alike
