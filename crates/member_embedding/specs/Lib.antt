pub mod Names
pub mod Wire
