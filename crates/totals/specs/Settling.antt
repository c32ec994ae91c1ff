-- One count that is wrong, and all counts above it by as much; and all of them set right.
-- Assumes nothing.
use Rattle.std.specs.Prelude.{ℕ, suc, ◌+◌, ◌*◌, ◌≤◌, ◌<◌, ◌≡◌, List, [], ◌∷◌, length}
use Rattle.model.specs.Layout.{largest_count, most, header, height_word, NodeVal, nth, Arena}
use Rattle.model.specs.Tree.{Tree, Ctx, top, under, flat, has}
use Rattle.model.specs.Words.{root_no}
use Rattle.store.specs.Links.{link_of}
use Rattle.standing.specs.Kept.{Links, Kept}
use Rattle.standing.specs.Standing.{Stands, Way, root_of, at_root, counts}
use Rattle.standing.specs.Totals.{TotalsBut, Totals}

-- the levels above a way's hole
abbrev pub above : {h : ℕ} → Ctx h → ℕ
above top = 0
above (under f c) = suc (above c)

-- so many nodes have no more pairs
abbrev pub ample : ℕ
ample = most * largest_count

-- a tree that fills a hole, without what is asked of the nodes elsewhere
pub record Part (ns : List NodeVal) {h : ℕ} (c : Ctx h) (t : Tree h) (free : List ℕ) : Type 0 where
  pub few : length ns ≤ largest_count
  pub way : Way ns c (root_no h t)
  pub tree : Stands ns h t
  pub links : Links ns
  pub root : link_of (nth ns (root_of c (root_no h t))) ≡ at_root
  pub once : (m : ℕ) → counts m c (has m h t) free ≤ 1
  pub within : (m : ℕ) → 1 ≤ counts m c (has m h t) free → m < length ns

-- the tree at a hole, the count of whose root alone is not what it should be, or is that of a change below it
pub record Lone (ns : List NodeVal) (n levels : ℕ) : Type 0 where
  pub height : ℕ
  pub way : Ctx (suc height)
  pub tree : Tree (suc height)
  pub free : List ℕ
  pub stand : Part ns way tree free
  pub node_is : tree.no ≡ n
  pub deep : above way ≤ levels
  pub told : TotalsBut (n ∷ []) ns

-- it is off as `now` is from `was`
pub record Lifts (ns : List NodeVal) (n levels was now : ℕ) : Type 0 where
  pub lone : Lone ns n levels
  pub off : (nth ns n).total + now ≡ length (flat (suc lone.height) lone.tree) + was
  pub low : was ≤ ample

pub record Settles (hd : List ℕ) (ns : List NodeVal) (n : ℕ) : Type 0 where
  pub lone : Lone ns n (header hd height_word)
  pub low : (nth ns n).total ≤ ample

-- the words hold the same nodes with true counts
pub record Settled (w hd : List ℕ) (ns : List NodeVal) : Type 0 where
  pub nodes : List NodeVal
  pub arena : Arena w hd nodes
  pub same : Kept ns nodes [] []
  pub told : Totals nodes

-- and on the way there
pub record Settling (w hd : List ℕ) (ns : List NodeVal) (n levels was now : ℕ) : Type 0 where
  pub nodes : List NodeVal
  pub arena : Arena w hd nodes
  pub same : Kept ns nodes [] []
  pub lifts : Lifts nodes n levels was now
