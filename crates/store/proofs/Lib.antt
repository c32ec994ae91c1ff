-- The files of this crate's laws.
-- Assumes nothing.
pub mod All
pub mod Relink
pub mod Returns
pub mod Searches
pub mod Chain
