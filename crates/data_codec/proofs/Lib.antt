pub mod Images
pub mod Envelopes
pub mod Seals
pub mod EnvelopePlaces
