pub mod Others
pub mod Kept
