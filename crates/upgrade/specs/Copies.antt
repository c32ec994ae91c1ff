-- The words of a format 1 arena's nodes, copied without counts.
-- Assumes nothing.
use Rattle.std.specs.Prelude.{ℕ, zero, suc, List, [], ◌∷◌, ◌++◌, map}
use Rattle.model.specs.Lists.{part}
use Rattle.model.specs.declared.Layout.TheVariants.{Format1}
use Rattle.model.specs.Layout.{base_by, total_word, NodeVal}
use Rattle.standing.specs.Totals.{with_total}

-- the nodes with no counts
abbrev pub bare : List NodeVal → List NodeVal
bare = map (λ (v : NodeVal). with_total v 0)

-- the words of the nodes from i on, k of them, of a format 1 arena, each with a count of 0
abbrev pub copies : List ℕ → ℕ → ℕ → List ℕ
copies w i zero = []
copies w i (suc k) = (part w (base_by Format1 i) total_word ++ (0 ∷ [])) ++ copies w (suc i) k
