pub mod Joined
pub mod Names
pub mod Newline
pub mod Spelled
pub mod Steps
pub mod Written
