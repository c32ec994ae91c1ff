-- What a cut leaves of a plain list, and what it takes.
-- Assumes nothing.
use Rattle.std.specs.Prelude.{ℕ, cond, List, [], ◌∷◌, leb}
use Rattle.model.specs.Tree.{Pair}

-- the keys below k, and those at or above it
abbrev pub lower : ℕ → List Pair → List Pair
lower k [] = []
lower k (p ∷ ps) = cond (leb k p.key) (lower k ps) (p ∷ lower k ps)

abbrev pub upper : ℕ → List Pair → List Pair
upper k [] = []
upper k (p ∷ ps) = cond (leb k p.key) (p ∷ upper k ps) (upper k ps)
