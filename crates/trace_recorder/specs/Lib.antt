pub mod Rows
pub mod Saw
