-- The files of this crate's laws.
-- Assumes nothing.
pub mod Tops
pub mod Sides
pub mod Mended
pub mod Entry
