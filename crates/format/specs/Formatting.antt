-- What the steps of formatting write.
-- Assumes nothing.
use Rattle.std.specs.Prelude.{ℕ, zero, suc, ◌+◌, ◌-◌, List, [], ◌∷◌}
use Rattle.model.specs.Lists.{count}
use Rattle.model.specs.Layout.{NodeVal}
use Rattle.model.specs.Words.{first_or, free_val}

-- the nodes after i, of n in all
abbrev pub chain_after : ℕ → ℕ → List ℕ
chain_after i n = count (i + 1) (n - (i + 1))

-- a node with no pairs and no edges
abbrev pub empty_node : ℕ → ℕ → NodeVal
empty_node state link = record { state = state; parent = link; place = 0; pairs = []; edges = []; total = 0 }

-- the free nodes from i on, k of them, each with the next
abbrev pub free_nodes : ℕ → ℕ → List NodeVal
free_nodes i zero = []
free_nodes i (suc k) = free_val (first_or (count (suc i) k)) ∷ free_nodes (suc i) k
