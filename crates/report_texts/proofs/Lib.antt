pub mod MarkTexts
pub mod Quoted
pub mod Ranges
pub mod Records
