pub mod Places
pub mod Spells
pub mod Lists
pub mod ListLaws
pub mod Options
pub mod OptionLaws
pub mod Wholes
