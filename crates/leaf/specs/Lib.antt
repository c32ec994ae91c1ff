-- The files of this crate's definitions.
-- Assumes nothing.
pub mod Pairs
pub mod Split
