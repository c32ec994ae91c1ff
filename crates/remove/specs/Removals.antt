-- A pair's place in a leaf or above, and the state without that pair.
-- Assumes nothing.
use Rattle.node.specs.declared.NodeNo.{NodeNo}
use Rattle.node.specs.declared.Place.{Place}
use Rattle.node.specs.declared.Kv.{Kv}
use Rattle.node.specs.Reading.{pair_of}
use Rattle.model.specs.Promise.{Holds}
use Rattle.standing.specs.Heads.{rest_of}
use Rattle.standing.specs.Heads.{HoleIn}
use Rattle.std.specs.Prelude.{ℕ, ◌≤◌, ◌≡◌, List, ◌∷◌, length}
use Rattle.model.specs.Tree.{Item, Tree, Ctx, plug, fill}
use Rattle.model.specs.Nodes.{Grown}
use Rattle.model.specs.Remove.{shrink, remove_at}
use Rattle.model.specs.State.{State}
use Rattle.search.specs.declared.Handle.{Handle}
use Rattle.navigate.specs.Places.{KvAt}

-- another tree, and other free nodes
abbrev pub grown_to : State → Grown → State
grown_to s g = record { size = s.size; whole = g.whole; free = g.free; mark = s.mark }

-- d is a pair's place in a leaf
pub record LeafKv (s : State) (d : Handle) : Type 0 where
  pub ctx : Ctx 1
  pub no : ℕ
  pub left : List (Item (Tree 0))
  pub item : Item (Tree 0)
  pub right : List (Item (Tree 0))
  pub whole : plug ctx (fill no left tt (item ∷ right)) ≡ s.whole
  pub node_is : no ≡ d.node.0
  pub at_is : length left ≡ d.at.0

-- the state without it
abbrev pub without : {d : Handle} (s : State) → LeafKv s d → State
without s y = grown_to s (shrink y.ctx (fill y.no y.left tt y.right) s.free)

-- d is a pair's place in an internal node
pub record InnerKv (s : State) (d : Handle) : Type 0 where
  pub kv : KvAt s d
  pub inner : 1 ≤ d.height

abbrev pub removed : {d : Handle} (s : State) → KvAt s d → State
removed {d} s y = grown_to s (remove_at d.height y.ctx y.no y.left y.hole y.item y.right s.free)

-- what taking a pair out of its leaf leaves: true counts
abbrev pub TakeCall : List ℕ → List ℕ → NodeNo → Place → Kv → Type 0
TakeCall w w' n i kv = (s : State) → Holds w s → (y : LeafKv s (record { node = n; height = 0; at = i })) → (pair_of kv ≡ y.item.pair) × HoleIn w' (rest_of s) y.ctx (fill y.no y.left tt y.right) s.free
