pub mod Values
pub mod Laws
pub mod Spelled
pub mod SpelledLaws
pub mod Data
pub mod DataLaws
pub mod DataSpelled
pub mod DataSpelledLaws
