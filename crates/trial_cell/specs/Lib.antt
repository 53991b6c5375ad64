pub mod Shelves
pub mod Tallies
pub mod Answers
