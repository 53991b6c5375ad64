pub mod Seeing
