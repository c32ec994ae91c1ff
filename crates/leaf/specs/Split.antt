-- A node split at a pair: what the list of nodes becomes, for a leaf and for an internal node alike, since a leaf has no edges.
-- Assumes nothing.
use Rattle.std.specs.Prelude.{ℕ, ◌+◌, ◌<◌, ◌≡◌, List, [], length, take, drop, set}
use Rattle.model.specs.Tree.{Pair}
use Rattle.model.specs.Layout.{leaf, NodeVal, nth}
use Rattle.node.specs.Reading.{pair_at}
use Rattle.model.specs.Nodes.{taken}
use Rattle.store.specs.Links.{with_body, fresh, relink_from, TakeReady}

pub record IsLeaf (v : NodeVal) : Type 0 where
  pub state_is : v.state ≡ leaf
  pub no_edges : v.edges ≡ []

-- what is left of the pair i stays in n, what is right of it goes to the fresh node m
abbrev pub cut_bodies : List NodeVal → ℕ → ℕ → ℕ → List NodeVal
cut_bodies ns n m i =
    set
    (set ns n (with_body (nth ns n) (take i (nth ns n).pairs) (take (i + 1) (nth ns n).edges)))
    m
    (with_body (fresh (nth ns n).state) (drop (i + 1) (nth ns n).pairs) (drop (i + 1) (nth ns n).edges))

-- the children that moved are linked
unfoldable pub split_nodes : List NodeVal → ℕ → ℕ → ℕ → List NodeVal
split_nodes ns n m i = relink_from (cut_bodies ns n m i) m 0

-- node n has a pair i, and there is a free node
pub record CutReady (h : List ℕ) (ns : List NodeVal) (free : List ℕ) (n i : ℕ) : Type 0 where
  pub take : TakeReady h ns free
  pub node : n < length ns
  pub place : i < length (nth ns n).pairs

abbrev pub Cuttable : List ℕ → List NodeVal → ℕ → ℕ → Type 0
Cuttable h ns n i = (free : List ℕ) × CutReady h ns free n i

-- the new node is the first free one, and the pair i rises
pub record Cut (free : List ℕ) (ns : List NodeVal) (n i right : ℕ) (risen : Pair) : Type 0 where
  pub right_is : right ≡ taken free
  pub risen_is : risen ≡ pair_at (nth ns n).pairs i
