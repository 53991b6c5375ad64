pub mod Digests
pub mod Borders
