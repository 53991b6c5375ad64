pub mod Generated
pub mod Texts
