-- The mark's two words are raised to the image's.
-- Assumes nothing.
use Rattle.std.specs.Prelude.{ℕ, max, ◌≡◌, List}
use Rattle.model.specs.Layout.{header, seen_word, mark_word}

-- of the words w and of the image i, the mark's words in x are the larger
pub record Raised (w i x : List ℕ) : Type 0 where
  pub seen_is : header x seen_word ≡ max (header w seen_word) (header i seen_word)
  pub mark_is : header x mark_word ≡ max (header w mark_word) (header i mark_word)
