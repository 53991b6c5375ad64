pub mod Notices
pub mod Worked
