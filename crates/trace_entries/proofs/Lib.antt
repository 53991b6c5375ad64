pub mod SeenLines
pub mod Looked
