pub mod Desks
pub mod Steps
pub mod Growing
pub mod Following
pub mod WorkedNotices
