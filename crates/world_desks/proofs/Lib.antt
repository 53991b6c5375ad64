pub mod FlushesTold
pub mod Following
pub mod Notified
pub mod Placed
