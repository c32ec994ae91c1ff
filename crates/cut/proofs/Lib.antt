-- The files of this crate's laws.
-- Assumes nothing.
pub mod Lower
pub mod Moves
pub mod Ends
