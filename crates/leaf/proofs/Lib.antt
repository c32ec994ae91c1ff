-- The files of this crate's laws.
-- Assumes nothing.
pub mod Steps
pub mod Cutting
