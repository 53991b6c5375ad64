pub mod Finals
pub mod Kept
pub mod Lines
pub mod Run
pub mod Telling
