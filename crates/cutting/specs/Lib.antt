-- The files of this crate's definitions.
-- Assumes nothing.
pub mod Trims
pub mod Sweep
pub mod Halves
