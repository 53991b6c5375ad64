pub mod SeenRuns
pub mod TracedRuns
