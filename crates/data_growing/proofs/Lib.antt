pub mod Merging
pub mod Loop
pub mod Searching
