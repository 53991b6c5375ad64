pub mod Going
pub mod Lists
pub mod Over
pub mod Told
