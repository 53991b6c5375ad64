pub mod Fields
pub mod Acts
pub mod Reading
pub mod Texts
pub mod Said
pub mod Worked
