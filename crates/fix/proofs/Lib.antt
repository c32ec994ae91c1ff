-- The files of this crate's laws.
-- Assumes nothing.
pub mod Holes
pub mod Choices
pub mod Balances
pub mod Emptying
