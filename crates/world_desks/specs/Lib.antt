pub mod Flushed
pub mod Seats
pub mod Watched
