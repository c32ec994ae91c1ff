-- The counts of the pairs below each node, one level at a time: what a change leaves wrong, and what sets it right.
-- Assumes nothing.
use Rattle.std.specs.Prelude.{◌≡◌, List, [], ◌∷◌, ℕ, ◌+◌, length, set}
use Rattle.model.specs.Lists.{times}
use Rattle.model.specs.Layout.{NodeVal, nth}

-- the counts of some nodes, together
abbrev pub totals : List NodeVal → List ℕ → ℕ
totals ns [] = 0
totals ns (c ∷ cs) = (nth ns c).total + totals ns cs

-- what the count of a node should be: its own pairs and the counts of the nodes just below it
abbrev pub due : List NodeVal → ℕ → ℕ
due ns q = length (nth ns q).pairs + totals ns (nth ns q).edges

-- counts are right but perhaps those of xs. (A free node, and a number that is no node's, has none: 0 is 0)
abbrev pub TotalsBut : List ℕ → List NodeVal → Type 0
TotalsBut xs ns = (q : ℕ) → times q xs ≡ 0 → (nth ns q).total ≡ due ns q

abbrev pub Totals : List NodeVal → Type 0
Totals = TotalsBut []

-- another count
abbrev pub with_total : NodeVal → ℕ → NodeVal
with_total v x = record { state = v.state; parent = v.parent; place = v.place; pairs = v.pairs; edges = v.edges; total = x }

abbrev pub put_total : List NodeVal → ℕ → ℕ → List NodeVal
put_total ns q x = set ns q (with_total (nth ns q) x)

-- the count of q set right
abbrev pub recount : List NodeVal → ℕ → List NodeVal
recount ns q = put_total ns q (due ns q)
