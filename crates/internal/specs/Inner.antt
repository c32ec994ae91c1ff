-- A pair and an edge put into an internal node, and a level put on the tree or taken off: what the nodes and the header become.
-- Assumes nothing.
use Rattle.std.specs.Prelude.{ℕ, ◌+◌, ◌-◌, ◌≤◌, ◌<◌, ◌≡◌, List, [], ◌∷◌, length, get_or, set}
use Rattle.model.specs.Lists.{All, times, insert_at}
use Rattle.model.specs.Tree.{Pair}
use Rattle.model.specs.Layout.{none, header, root_word, height_word, largest_count, internal, NodeVal, nth}
use Rattle.model.specs.Nodes.{taken}
use Rattle.store.specs.Links.{with_body, with_edges, fresh, take_head, Frees, return_head, return_node, link, relink_from, TakeReady}
use Rattle.leaf.specs.Pairs.{RoomAt}

-- an internal node has an edge more than pairs, and each leads to a node
pub record Branches (ns : List NodeVal) (n : ℕ) : Type 0 where
  pub state_is : (nth ns n).state ≡ internal
  pub edges_are : length (nth ns n).edges ≡ length (nth ns n).pairs + 1
  pub lead : All (λ (c : ℕ). c < length ns) (nth ns n).edges

-- ---- a pair put in at the edge i, and an edge right of it

abbrev pub fit_bodies : List NodeVal → ℕ → ℕ → Pair → ℕ → List NodeVal
fit_bodies ns n i p c = set ns n (with_body (nth ns n) (insert_at (nth ns n).pairs i p) (insert_at (nth ns n).edges (i + 1) c))

unfoldable pub fit_nodes : List NodeVal → ℕ → ℕ → Pair → ℕ → List NodeVal
fit_nodes ns n i p c = relink_from (fit_bodies ns n i p c) n (i + 1)

pub record FitReady (ns : List NodeVal) (n i c : ℕ) : Type 0 where
  pub room : RoomAt ns n i
  pub branches : Branches ns n
  pub child : c < length ns

-- ---- a level

abbrev pub root_of : List ℕ → ℕ
root_of h = header h root_word

abbrev pub height_of : List ℕ → ℕ
height_of h = header h height_word

abbrev pub with_root : List ℕ → ℕ → ℕ → List ℕ
with_root h root height = set (set h root_word root) height_word height

-- a new node m above the node n, which hangs nowhere and is its only edge
unfoldable pub crown_nodes : List NodeVal → ℕ → ℕ → List NodeVal
crown_nodes ns m n = link (set ns m (with_edges (fresh internal) (n ∷ []))) n m 0

pub record CrownReady (h : List ℕ) (ns : List NodeVal) (free : List ℕ) (n : ℕ) : Type 0 where
  pub take : TakeReady h ns free
  pub node : n < length ns

abbrev pub Crownable : List ℕ → List NodeVal → ℕ → Type 0
Crownable h ns n = (free : List ℕ) × CrownReady h ns free n

-- put on: a new root above the old one
abbrev pub push_nodes : List ℕ → List ℕ → List NodeVal → List NodeVal
push_nodes h free ns = crown_nodes ns (taken free) (root_of h)

abbrev pub push_head : List ℕ → List ℕ → List ℕ
push_head h free = with_root (take_head h free) (taken free) (height_of h + 1)

pub record PushReady (h : List ℕ) (ns : List NodeVal) (free : List ℕ) : Type 0 where
  pub take : TakeReady h ns free
  pub root : root_of h < length ns
  pub height : height_of h < largest_count

abbrev pub Pushable : List ℕ → List NodeVal → Type 0
Pushable h ns = (free : List ℕ) × PushReady h ns free

-- taken off: the root, which has no pairs and one edge, is returned, and its child is the root
abbrev pub only_child : List ℕ → List NodeVal → ℕ
only_child h ns = get_or (nth ns (root_of h)).edges 0 0

abbrev pub popped : List ℕ → List NodeVal → List NodeVal
popped h ns = link (set ns (root_of h) (with_edges (nth ns (root_of h)) [])) (only_child h ns) none 0

unfoldable pub pop_nodes : List ℕ → List ℕ → List NodeVal → List NodeVal
pop_nodes h free ns = return_node (popped h ns) free (root_of h)

abbrev pub pop_head : List ℕ → List ℕ → List NodeVal → List ℕ
pop_head h free ns = with_root (return_head h free (root_of h)) (only_child h ns) (height_of h - 1)

-- (the free nodes are asked for as they stand when the root comes to them)
pub record PopReady (h : List ℕ) (ns : List NodeVal) (free : List ℕ) : Type 0 where
  pub root : root_of h < length ns
  pub no_pairs : (nth ns (root_of h)).pairs ≡ []
  pub one_edge : length (nth ns (root_of h)).edges ≡ 1
  pub child : only_child h ns < length ns
  pub height : 1 ≤ height_of h
  pub out : times (root_of h) free ≡ 0
  pub used : length free < length ns
  pub frees : Frees h (popped h ns) free

abbrev pub Poppable : List ℕ → List NodeVal → Type 0
Poppable h ns = (free : List ℕ) × PopReady h ns free
