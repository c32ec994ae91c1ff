-- The files of this crate's laws.
-- Assumes nothing.
pub mod Posts
pub mod Spots
pub mod Live
pub mod Walks
pub mod Found
