pub mod Envelopes
pub mod Stored
pub mod Entries
pub mod Answers
pub mod Kept
pub mod Calls
pub mod Lends
