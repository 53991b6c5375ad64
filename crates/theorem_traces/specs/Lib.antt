pub mod Traced
pub mod Telling
