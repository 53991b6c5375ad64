pub mod Answering
pub mod Asking
pub mod Rows
pub mod Saying
pub mod Serving
pub mod Stops
pub mod Tellings
pub mod Texts
