-- Places of the code as places in the tree of a state.
-- Assumes nothing.
use Rattle.std.specs.Prelude.{ℕ, zero, suc, ◌≡◌, List, ◌∷◌, length, Option, Some, None}
use Rattle.model.specs.Tree.{Item, Tree, Ctx, Whole, plug, fill}
use Rattle.model.specs.Search.{Spot, at, gap}
use Rattle.model.specs.State.{State}
use Rattle.model.specs.Promise.{Holds}
use Rattle.search.specs.declared.Handle.{Handle}
use Rattle.search.specs.Results.{handle, leaf_edge}

-- the words hold a sound state of which P holds
pub record In (w : List ℕ) (P : State → Type 0) : Type 0 where
  pub state : State
  pub holds : Holds w state
  pub there : P state

-- d is a leaf edge
pub record EdgeAt (s : State) (d : Handle) : Type 0 where
  pub way : Ctx zero
  pub whole : plug way tt ≡ s.whole
  pub is : d ≡ leaf_edge way

-- d is a pair's place
pub record KvAt (s : State) (d : Handle) : Type 0 where
  pub ctx : Ctx (suc d.height)
  pub no : ℕ
  pub left : List (Item (Tree d.height))
  pub hole : Tree d.height
  pub item : Item (Tree d.height)
  pub right : List (Item (Tree d.height))
  pub whole : plug ctx (fill no left hole (item ∷ right)) ≡ s.whole
  pub node_is : d.node.0 ≡ no
  pub at_is : d.at.0 ≡ length left

-- the pair of a spot, or the end
abbrev pub stepped : Spot → Option Handle
stepped (at {h = h} c n l e x r) = Some (handle n h (length l))
stepped (gap c) = None

-- the spot, if it is a pair, is one of the tree's
abbrev pub InTree : Whole → Spot → Type 0
InTree w (gap c) = Unit {0}
InTree w (at c n l e x r) = plug c (fill n l e (x ∷ r)) ≡ w
