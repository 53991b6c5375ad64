pub mod Channels
pub mod Places
pub mod Keeping
pub mod Seating
pub mod Standing
pub mod Sketched
pub mod Sending
pub mod Parts
