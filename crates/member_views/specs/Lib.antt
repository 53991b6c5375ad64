pub mod Views
pub mod Sound
pub mod Changes
