pub mod Called
pub mod Turned
pub mod Waiting
pub mod Ended
pub mod Settled
pub mod Walking
pub mod Stopped
pub mod Beside
