-- The files of this crate's laws.
-- Assumes nothing.
pub mod Trims
pub mod Upward
pub mod Sweeps
pub mod Members
pub mod Closing
pub mod Halves
pub mod Clearing
pub mod Through
