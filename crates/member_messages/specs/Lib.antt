pub mod Sketches
pub mod Standing
