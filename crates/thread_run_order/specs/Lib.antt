pub mod Orders
pub mod Images
pub mod Section
pub mod Runs
pub mod Seeing
pub mod Finishing
