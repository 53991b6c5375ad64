pub mod Laws
pub mod Meaning
pub mod Views
pub mod Merges
pub mod Seen
pub mod Keeping
pub mod SpellingLoops
