pub mod Keys
pub mod Declaring
pub mod Forgetting
pub mod Processes
pub mod Runs
pub mod Worked
