pub mod Clients
pub mod Lines
pub mod Places
pub mod Worlds
