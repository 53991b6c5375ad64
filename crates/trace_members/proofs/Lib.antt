pub mod SeenMembers
pub mod SeenSteps
pub mod SeenWorlds
