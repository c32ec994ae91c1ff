-- The files of this crate's laws.
-- Assumes nothing.
pub mod Chunks
pub mod Words
