-- Two children of a node and the pair between them: merged, or pairs moved from one to the other. What the list of nodes becomes.
-- A leaf has no edges, so each of these is one function for all heights.
-- Assumes nothing.
use Rattle.std.specs.Prelude.{ℕ, ◌+◌, ◌≤◌, ◌<◌, ◌≡◌, cond, ◌≢◌, List, [], ◌∷◌, ◌++◌, eqb, length, take, drop, set}
use Rattle.model.specs.Lists.{All, times}
use Rattle.model.specs.Tree.{Pair}
use Rattle.model.specs.Layout.{most, internal, NodeVal, nth}
use Rattle.slices.specs.Words.{remove_at}
use Rattle.node.specs.Reading.{pair_at}
use Rattle.store.specs.Links.{with_body, Frees, return_node, relink_from}
use Rattle.leaf.specs.Pairs.{with_pairs}
use Rattle.internal.specs.Inner.{Branches}

-- how many edges come with k of them to a node of state st: all to an internal one, none to a leaf
unfoldable pub edges_with : ℕ → ℕ → ℕ
edges_with st k = cond (eqb st internal) k 0

-- node n has as many edges as its state says, and each leads to a node
pub record Shaped (ns : List NodeVal) (n : ℕ) : Type 0 where
  pub node : n < length ns
  pub edges_are : length (nth ns n).edges ≡ edges_with (nth ns n).state (length (nth ns n).pairs + 1)
  pub lead : All (λ (c : ℕ). c < length ns) (nth ns n).edges

-- the nodes l and r can be the children left and right of the pair i of p
pub record Beside (ns : List NodeVal) (p i l r : ℕ) : Type 0 where
  pub parent : p < length ns
  pub place : i < length (nth ns p).pairs
  pub branches : Branches ns p
  pub left : Shaped ns l
  pub right : Shaped ns r
  pub alike : (nth ns r).state ≡ (nth ns l).state
  pub not_left : p ≢ l
  pub not_right : p ≢ r
  pub apart : l ≢ r

-- three nodes made to P, L and R
abbrev pub three : List NodeVal → ℕ → ℕ → ℕ → NodeVal → NodeVal → NodeVal → List NodeVal
three ns p l r P L R = set (set (set ns p P) l L) r R

-- the pairs of both with the pair between them, and their edges
abbrev pub joined_pairs : List NodeVal → ℕ → ℕ → ℕ → ℕ → List Pair
joined_pairs ns p i l r = (nth ns l).pairs ++ pair_at (nth ns p).pairs i ∷ (nth ns r).pairs

abbrev pub joined_edges : List NodeVal → ℕ → ℕ → List ℕ
joined_edges ns l r = (nth ns l).edges ++ (nth ns r).edges

-- ---- merged: all of them to l

abbrev pub merged_bodies : List NodeVal → ℕ → ℕ → ℕ → ℕ → List NodeVal
merged_bodies ns p i l r =
    three ns p l r
    (with_body (nth ns p) (remove_at (nth ns p).pairs i) (remove_at (nth ns p).edges (i + 1)))
    (with_body (nth ns l) (joined_pairs ns p i l r) (joined_edges ns l r))
    (with_body (nth ns r) [] [])

-- the children that moved are linked
abbrev pub merged_links : List NodeVal → ℕ → ℕ → ℕ → ℕ → List NodeVal
merged_links ns p i l r = relink_from (relink_from (merged_bodies ns p i l r) l (length (nth ns l).edges)) p (i + 1)

-- and r is returned
unfoldable pub merge_nodes : List ℕ → List NodeVal → ℕ → ℕ → ℕ → ℕ → List NodeVal
merge_nodes free ns p i l r = return_node (merged_links ns p i l r) free r

-- (the free nodes are asked for as they stand when r comes to them)
pub record MergeReady (h : List ℕ) (ns : List NodeVal) (free : List ℕ) (p i l r : ℕ) : Type 0 where
  pub beside : Beside ns p i l r
  pub fits : length (nth ns l).pairs + 1 + length (nth ns r).pairs ≤ most
  pub out : times r free ≡ 0
  pub used : length free < length ns
  pub frees : Frees h (merged_links ns p i l r) free

abbrev pub Mergeable : List ℕ → List NodeVal → ℕ → ℕ → ℕ → ℕ → Type 0
Mergeable h ns p i l r = (free : List ℕ) × MergeReady h ns free p i l r

-- ---- moved: m of the pairs to l, the next one to the parent, the rest to r; to the left or to the right, as m is more or less than l had

abbrev pub moved_bodies : List NodeVal → ℕ → ℕ → ℕ → ℕ → ℕ → List NodeVal
moved_bodies ns p i l r m =
    three ns p l r
    (with_pairs (nth ns p) (set (nth ns p).pairs i (pair_at (joined_pairs ns p i l r) m)))
    (with_body (nth ns l) (take m (joined_pairs ns p i l r)) (take (m + 1) (joined_edges ns l r)))
    (with_body (nth ns r) (drop (m + 1) (joined_pairs ns p i l r)) (drop (m + 1) (joined_edges ns l r)))

unfoldable pub move_nodes : List NodeVal → ℕ → ℕ → ℕ → ℕ → ℕ → List NodeVal
move_nodes ns p i l r m = relink_from (relink_from (moved_bodies ns p i l r m) l (length (nth ns l).edges)) r 0

-- c pairs can be moved from the one child to the other
pub record StealReady (ns : List NodeVal) (p i l r donor receiver c : ℕ) : Type 0 where
  pub beside : Beside ns p i l r
  pub some : 1 ≤ c
  pub has : c ≤ length (nth ns donor).pairs
  pub room : length (nth ns receiver).pairs + c ≤ most
