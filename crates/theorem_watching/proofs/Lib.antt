pub mod Computed
pub mod Projecting
