pub mod Watching
pub mod Words
pub mod Rows
