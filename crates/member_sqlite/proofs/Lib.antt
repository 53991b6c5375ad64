pub mod Asking
pub mod Matching
pub mod Putting
pub mod Values
