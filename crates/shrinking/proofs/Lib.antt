-- The files of this crate's laws.
-- Assumes nothing.
pub mod Three
pub mod Moves
pub mod Pop
pub mod Items
pub mod Steps
pub mod Pairs
