pub mod Rows
pub mod Sums
pub mod Writes
pub mod Touches
pub mod Elements
pub mod Standing
