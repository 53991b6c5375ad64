pub mod Reading
pub mod OptionReading
