pub mod Quorum
pub mod Finishing
pub mod Borders
pub mod Scripts
