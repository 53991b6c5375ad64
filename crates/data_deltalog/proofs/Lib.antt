pub mod Needs
pub mod Records
pub mod InOrder
pub mod Answering
pub mod Keeping
pub mod Grouping
pub mod Following
