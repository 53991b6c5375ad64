pub mod Causes
pub mod InMemory
pub mod Standard
pub mod Transfers
