-- What is asked of an arena before a node of it is read or changed, and what the declared types stand for.
-- Assumes nothing.
use Rattle.std.specs.Prelude.{Option, Some, None, ℕ, ◌+◌, ◌≤◌, true, false, List, eqb, length, get_or}
use Rattle.model.specs.Tree.{Pair}
use Rattle.model.specs.Layout.{none, base, node_size, NodeVal, Arena}
use Rattle.model.specs.Insert.{Side, left, right, Split}
use Rattle.node.specs.declared.Kv.{Kv}
use Rattle.node.specs.declared.NodeNo.{NodeNo}
use Rattle.node.specs.declared.Place.{Place}
use Rattle.node.specs.declared.Rising.{Rising}
use Rattle.node.specs.declared.LeftOrRight.{LeftOrRight}
use Rattle.node.specs.declared.LeftOrRight.TheVariants.{Left, Right}

-- the words of node n are among w
abbrev pub Within : List ℕ → ℕ → Type 0
Within w n = base n + node_size ≤ length w

-- w is an arena of whose header and nodes P holds
pub record Has (w : List ℕ) (P : List ℕ → List NodeVal → Type 0) : Type 0 where
  pub head : List ℕ
  pub nodes : List NodeVal
  pub arena : Arena w head nodes
  pub holds : P head nodes

-- where a node hangs whose words for parent and edge index are p and i
abbrev pub ascent_of : ℕ → ℕ → Option (NodeNo × Place)
ascent_of p i =
    elim (eqb p none) [
      | true ↦ None
      | false ↦ Some (record { 0 = p }, record { 0 = i })
    ]

abbrev pub side_of : Side → ℕ → LeftOrRight Place
side_of left i = Left (record { 0 = i })
side_of right i = Right (record { 0 = i })

abbrev pub rising_of : Split → Rising
rising_of s = record { middle = record { 0 = s.place }; insertion = side_of s.side s.edge }

abbrev pub pair_of : Kv → Pair
pair_of p = record { key = p.0; val = p.1 }

-- the pair at a place
abbrev pub pair_at : List Pair → ℕ → Pair
pair_at ps i = get_or ps i (record { key = 0; val = 0 })
