-- The bounds at either end of a range, in the order in which they are tried.
-- Assumes nothing.
use Rattle.std.specs.Prelude.{ℕ, zero, suc, List, [], ◌∷◌, ◌++◌, map}
use Rattle.model.specs.declared.SearchBound.{SearchBound}
use Rattle.model.specs.declared.SearchBound.TheVariants.{Included, Excluded, AllIncluded}

-- the kinds of bound
abbrev pub tried_bound : ℕ → ℕ → SearchBound
tried_bound zero key = Included key
tried_bound (suc zero) key = Excluded key
tried_bound (suc (suc kind)) key = AllIncluded

-- keys around the borders of the nodes
abbrev pub tried_keys : List ℕ
tried_keys = 1 ∷ 5 ∷ 6 ∷ 70 ∷ 72 ∷ 142 ∷ []

-- each key included, each excluded, and the open bound
abbrev pub tried_bounds : List SearchBound
tried_bounds = map (tried_bound 0) tried_keys ++ map (tried_bound 1) tried_keys ++ tried_bound 2 0 ∷ []
