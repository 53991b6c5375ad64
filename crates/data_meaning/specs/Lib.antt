pub mod Records
pub mod Touching
pub mod Stamping
