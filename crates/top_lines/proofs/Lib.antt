pub mod Lasting
pub mod Readings
pub mod Served
pub mod Words
