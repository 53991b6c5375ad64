pub mod Naming
pub mod Accepting
