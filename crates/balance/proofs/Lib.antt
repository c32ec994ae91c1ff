-- The files of this crate's laws.
-- Assumes nothing.
pub mod Three
pub mod Merging
pub mod Shapes
pub mod Moving
pub mod StealingLeft
pub mod StealingRight
