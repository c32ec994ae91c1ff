-- The files of this crate's lemmas.
-- Assumes nothing.
mod Failed
