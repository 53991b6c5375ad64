pub mod Settling
pub mod Scripts
