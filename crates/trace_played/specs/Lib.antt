pub mod Seeing
pub mod Traced
