pub mod Answers
pub mod Contents
pub mod Images
pub mod Words
pub mod Calls
