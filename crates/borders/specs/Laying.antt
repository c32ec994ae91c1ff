-- Words that are laid from bytes.
-- Assumes nothing.
use Rattle.std.specs.Prelude.{ℕ, cond, List, map, eqb}
use Rattle.model.specs.Layout.{none}

-- a byte is a word, 255 is NONE
abbrev pub word_of : ℕ → ℕ
word_of b = cond (eqb b 255) none b

abbrev pub words_in : List ℕ → List ℕ
words_in = map word_of
