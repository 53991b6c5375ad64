pub mod Traces
pub mod Meaning
pub mod Runs
