-- The files of this crate's laws.
-- Assumes nothing.
pub mod Tests
pub mod Short
