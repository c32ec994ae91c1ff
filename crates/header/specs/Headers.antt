-- How many nodes so many words are an arena of, and a header with the mark raised.
-- Assumes nothing.
use Rattle.std.specs.Prelude.{ℕ, max, List, set, Option, None, Some}
use Rattle.model.specs.Layout.{Sized, header, seen_word, mark_word}
use Rattle.model.specs.Mark.{Mark, unseen, seen}
use Rattle.model.specs.Promise.{AnyCount}

-- how many nodes an arena of so many words has; None where no arena has that length
abbrev pub Counted : ℕ → Option ℕ → Type 0
Counted long None = AnyCount long → ⊥
Counted long (Some n) = Sized n long

-- the words with a key spent
abbrev pub raised : ℕ → List ℕ → List ℕ
raised k w = set (set w mark_word (max (header w mark_word) k)) seen_word 1

-- the mark that an Option is
abbrev pub marked : Option ℕ → Mark
marked None = unseen
marked (Some k) = seen k
