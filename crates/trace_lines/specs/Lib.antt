pub mod Meant
pub mod WellFormed
