pub mod Lines
pub mod Steps
pub mod Watching
pub mod Followed
