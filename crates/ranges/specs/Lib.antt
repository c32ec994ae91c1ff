-- The files of this crate's definitions.
-- Assumes nothing.
pub mod Bounds
