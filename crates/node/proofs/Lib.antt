-- The files of this crate's laws.
-- Assumes nothing.
pub mod Pad
pub mod Fields
pub mod Reading
