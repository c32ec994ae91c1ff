pub mod Steps
pub mod Climbs
