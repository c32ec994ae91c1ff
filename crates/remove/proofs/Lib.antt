-- The files of this crate's laws.
-- Assumes nothing.
pub mod States
pub mod Again
pub mod Leaving
pub mod Inner
