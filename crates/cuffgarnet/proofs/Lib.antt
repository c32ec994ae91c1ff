-- The files of this crate's laws.
-- Assumes nothing.
pub mod Bounds
pub mod Same
pub mod Told
