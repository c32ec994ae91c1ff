-- What a step of the walk has to pass, and what it then says.
-- Assumes nothing.
use Rattle.std.specs.Prelude.{ℕ, ◌+◌, ◌-◌, ◌≤◌, ◌<◌, ◌≡◌, List, [], ◌∷◌, ◌++◌, length, Option, None, Some}
use Rattle.model.specs.Lists.{join_to, mix_to}
use Rattle.model.specs.declared.Layout.{Layout}
use Rattle.model.specs.Layout.{least, Counts}
use Rattle.model.specs.WellFormed.{Reached, edge_at_by, key_at_by, reach_by, keys_in_by}
use Rattle.model.specs.Shape.{ShapeBy}
use Rattle.inspect.specs.Tests.{Above}
use Rattle.checker.specs.declared.Walk.{Walk}

-- what has to hold, the keys in order, how many nodes
pub record Task : Type 1 where
  pub holds : Type 0
  pub keys : List ℕ
  pub nodes : ℕ

-- the keys rise strictly, from the last one on
unfoldable pub Rises : Option ℕ → List ℕ → Type 0
Rises l [] = Unit {0}
Rises l (k ∷ ks) = Above l k × Rises (Some k) ks

unfoldable pub last_of : Option ℕ → List ℕ → Option ℕ
last_of l [] = l
last_of l (k ∷ ks) = last_of (Some k) ks

-- a task that is done from a walk on: no more pairs and nodes than are left
pub record Passes (t : Task) (w : Walk) : Type 0 where
  pub holds : t.holds
  pub rises : Rises w.last t.keys
  pub pairs : length t.keys ≤ w.pairs
  pub nodes : t.nodes ≤ w.nodes

-- the walk after it
abbrev pub after : Walk → Task → Walk
after w t = record { nodes = w.nodes - t.nodes; pairs = w.pairs - length t.keys; last = last_of w.last t.keys }

abbrev pub Said : Task → Walk → Option Walk → Type 0
Said t w None = Passes t w → ⊥
Said t w (Some v) = Passes t w × (v ≡ after w t)

-- what was passed from one walk to another, and then compared with the count x
abbrev pub Tells : Layout → ℕ → Walk → Walk → Option Walk → Type 0
Tells fm x u v None = (Counts fm → x ≡ u.pairs - v.pairs) → ⊥
Tells fm x u v (Some q) = (Counts fm → x ≡ u.pairs - v.pairs) × (q ≡ v)

-- ---- the tasks

abbrev pub key_task : ℕ → Task
key_task k = record { holds = Unit {0}; keys = k ∷ []; nodes = 0 }

-- where a leaf's edge leads
abbrev pub gap : Task
gap = record { holds = Unit {0}; keys = []; nodes = 0 }

abbrev pub node_task : (fm : Layout) → List ℕ → ℕ → Reached → Task
node_task fm w count r = record {
  holds = ShapeBy fm w count r.below r.fewest r.node r.parent r.place;
  keys = keys_in_by fm w r.below r.node;
  nodes = length (reach_by fm w r.below r.fewest r.node r.parent r.place);
}

-- m + 1 edges of a node and the m keys between them: f says what each edge leads to, k the keys, size how many nodes so many edges lead to
abbrev pub up_to : (ℕ → Task) → (ℕ → ℕ) → (ℕ → ℕ) → ℕ → Task
up_to f k size m = record {
  holds = (i : ℕ) → i < m + 1 → (f i).holds;
  keys = mix_to (λ i. (f i).keys) k m ++ (f m).keys;
  nodes = size (m + 1);
}

abbrev pub keys_task : (fm : Layout) → List ℕ → ℕ → ℕ → Task
keys_task fm w n = up_to (λ i. gap) (key_at_by fm w n) (λ i. 0)

-- the node that edge i of node n leads to
abbrev pub child_of : (fm : Layout) → List ℕ → ℕ → ℕ → ℕ → Reached
child_of fm w h n i = record { below = h; fewest = least; node = edge_at_by fm w n i; parent = n; place = i }

abbrev pub children : (fm : Layout) → List ℕ → ℕ → ℕ → ℕ → ℕ → Task
children fm w count h n i = node_task fm w count (child_of fm w h n i)

-- how many nodes the first m edges lead to
abbrev pub nodes_to : (fm : Layout) → List ℕ → ℕ → ℕ → ℕ → ℕ
nodes_to fm w h n m = length (join_to (λ i. reach_by fm w h least (edge_at_by fm w n i) n i) m)

abbrev pub edges_task : (fm : Layout) → List ℕ → ℕ → ℕ → ℕ → ℕ → Task
edges_task fm w count h n = up_to (children fm w count h n) (key_at_by fm w n) (nodes_to fm w h n)
