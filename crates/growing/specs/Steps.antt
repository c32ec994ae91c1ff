-- The store's moves in an insertion, for a leaf and an internal node under one name, and when they can be made.
-- Assumes nothing.
use Rattle.std.specs.Prelude.{ℕ, zero, suc, List}
use Rattle.model.specs.Tree.{Pair}
use Rattle.model.specs.Layout.{NodeVal, nth}
use Rattle.model.specs.Insert.{Side, left, right}
use Rattle.leaf.specs.Pairs.{RoomAt, insert_pair}
use Rattle.leaf.specs.Split.{IsLeaf}
use Rattle.internal.specs.Inner.{Branches, FitReady, fit_nodes}

-- a pair put in at an edge, and the edge y right of it where there are trees below
abbrev pub fit_at : ℕ → List NodeVal → ℕ → ℕ → Pair → ℕ → List NodeVal
fit_at zero ns n i p y = insert_pair ns n i p
fit_at (suc h) ns n i p y = fit_nodes ns n i p y

abbrev pub FitsAt : ℕ → List NodeVal → ℕ → ℕ → ℕ → Type 0
FitsAt zero ns n i y = RoomAt ns n i
FitsAt (suc h) ns n i y = FitReady ns n i y

-- a node to be split is a leaf, or has its edges
abbrev pub Splits : ℕ → List NodeVal → ℕ → Type 0
Splits zero ns n = IsLeaf (nth ns n)
Splits (suc h) ns n = Branches ns n

-- the half that the new pair goes into
abbrev pub half : Side → ℕ → ℕ → ℕ
half left n m = n
half right n m = m
