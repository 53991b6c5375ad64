pub mod Laws
pub mod Views
pub mod Sets
pub mod SetWords
pub mod Walks
pub mod Seqs
pub mod Readings
pub mod Spellings
