pub mod Verdicts
pub mod Rows
pub mod Prunes
pub mod Holds
pub mod Standing
