-- One pass over all nodes, from the last: those that hold a key too large, and those that are free, become the free chain.
-- Assumes nothing.
use Rattle.std.specs.Prelude.{ℕ, suc, Bool, true, false, cond, List, [], ◌∷◌, eqb, leb, length}
use Rattle.model.specs.Layout.{NodeVal}
use Rattle.model.specs.Tree.{Pair}
use Rattle.model.specs.Words.{free_val, first_or}
use Rattle.store.specs.Links.{with_free}

-- the first of these pairs has a key of at least k
abbrev pub reached : ℕ → List Pair → Bool
reached k [] = false
reached k (p ∷ ps) = leb k p.key

-- a node that goes
unfoldable pub goes : ℕ → NodeVal → Bool
goes k v = cond (eqb v.state 0) true (reached k v.pairs)

-- of the nodes from i on, the numbers of those that go
abbrev pub freed : ℕ → ℕ → List NodeVal → List ℕ
freed k i [] = []
freed k i (v ∷ ns) = cond (goes k v) (i ∷ freed k (suc i) ns) (freed k (suc i) ns)

-- and the nodes afterwards
abbrev pub swept : ℕ → ℕ → List NodeVal → List NodeVal
swept k i [] = []
swept k i (v ∷ ns) = cond (goes k v) (free_val (first_or (freed k (suc i) ns))) v ∷ swept k (suc i) ns

-- the header's words about the free chain
abbrev pub swept_head : ℕ → List ℕ → List NodeVal → List ℕ
swept_head k h ns = with_free h (first_or (freed k 0 ns)) (length (freed k 0 ns))
