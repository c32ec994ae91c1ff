-- The files of this crate's definitions.
-- Assumes nothing.
pub mod Arrived
pub mod Walking
pub mod Found
