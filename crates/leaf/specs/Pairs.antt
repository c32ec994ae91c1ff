-- Changes of the pairs of one node or of two, and when they can be made. A node's edges are left alone.
-- Assumes nothing.
use Rattle.std.specs.Prelude.{ℕ, ◌+◌, ◌≤◌, ◌<◌, ◌≡◌, ◌≢◌, List, [], ◌++◌, length, take, drop, set}
use Rattle.model.specs.Lists.{insert_at}
use Rattle.model.specs.Tree.{Pair}
use Rattle.model.specs.Layout.{most, NodeVal, nth}
use Rattle.slices.specs.Words.{remove_at}
use Rattle.store.specs.Links.{with_body}

abbrev pub with_pairs : NodeVal → List Pair → NodeVal
with_pairs v ps = with_body v ps v.edges

-- ---- of one node

abbrev pub put_pairs : List NodeVal → ℕ → List Pair → List NodeVal
put_pairs ns n ps = set ns n (with_pairs (nth ns n) ps)

abbrev pub insert_pair : List NodeVal → ℕ → ℕ → Pair → List NodeVal
insert_pair ns n i p = put_pairs ns n (insert_at (nth ns n).pairs i p)

abbrev pub replace_pair : List NodeVal → ℕ → ℕ → Pair → List NodeVal
replace_pair ns n i p = put_pairs ns n (set (nth ns n).pairs i p)

abbrev pub remove_pair : List NodeVal → ℕ → ℕ → List NodeVal
remove_pair ns n i = put_pairs ns n (remove_at (nth ns n).pairs i)

-- node n has room for a pair at the edge i
pub record RoomAt (ns : List NodeVal) (n i : ℕ) : Type 0 where
  pub node : n < length ns
  pub room : length (nth ns n).pairs < most
  pub place : i ≤ length (nth ns n).pairs

-- node n has a pair i
pub record PairAt (ns : List NodeVal) (n i : ℕ) : Type 0 where
  pub node : n < length ns
  pub place : i < length (nth ns n).pairs

-- ---- of two

abbrev pub put_both : List NodeVal → ℕ → ℕ → List Pair → List Pair → List NodeVal
put_both ns l r ps qs = set (set ns l (with_pairs (nth ns l) ps)) r (with_pairs (nth ns r) qs)

-- the pairs of l from i on put before those of r
abbrev pub last_pairs : List NodeVal → ℕ → ℕ → ℕ → List NodeVal
last_pairs ns l r i = put_both ns l r (take i (nth ns l).pairs) (drop i (nth ns l).pairs ++ (nth ns r).pairs)

-- the first c pairs of r put behind those of l
abbrev pub first_pairs : List NodeVal → ℕ → ℕ → ℕ → List NodeVal
first_pairs ns l r c = put_both ns l r ((nth ns l).pairs ++ take c (nth ns r).pairs) (drop c (nth ns r).pairs)

-- the pairs of n after i put into the empty node m, and that at i taken out
abbrev pub split_pairs : List NodeVal → ℕ → ℕ → ℕ → List NodeVal
split_pairs ns n m i = put_both ns n m (take i (nth ns n).pairs) (drop (i + 1) (nth ns n).pairs)

pub record Two (ns : List NodeVal) (l r : ℕ) : Type 0 where
  pub left : l < length ns
  pub right : r < length ns
  pub apart : l ≢ r

pub record LastReady (ns : List NodeVal) (l r i : ℕ) : Type 0 where
  pub two : Two ns l r
  pub place : i ≤ length (nth ns l).pairs
  pub fits : length (nth ns l).pairs + length (nth ns r).pairs ≤ most + i

pub record FirstReady (ns : List NodeVal) (l r c : ℕ) : Type 0 where
  pub two : Two ns l r
  pub place : c ≤ length (nth ns r).pairs
  pub fits : length (nth ns l).pairs + c ≤ most

pub record SplitReady (ns : List NodeVal) (n m i : ℕ) : Type 0 where
  pub two : Two ns n m
  pub place : i < length (nth ns n).pairs
  pub empty : (nth ns m).pairs ≡ []
