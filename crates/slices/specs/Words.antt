-- Words of a slice: a list with a part written over, a word taken out, words moved.
-- Assumes nothing.
use Rattle.std.specs.Prelude.{List, ◌++◌, ℕ, take, drop, replicate}
use Rattle.model.specs.Lists.{part}

module _ {A : Type 0} where
  -- l with p in the place of the n words from i
  unfoldable pub splice : List A → ℕ → ℕ → List A → List A
  splice l i n p = take i l ++ (p ++ drop n (drop i l))

  -- l without the word at i, one shorter
  unfoldable pub remove_at : List A → ℕ → List A
  remove_at l i = take i l ++ drop 1 (drop i l)

-- l with the n words from i at j, and zeros where they were
unfoldable pub moved : List ℕ → ℕ → ℕ → ℕ → List ℕ
moved l i j n = splice (splice l j n (part l i n)) i n (replicate n 0)
