-- A tree cut along the way to a leaf edge, from the leaf up: each node keeps what is left of the way.
-- Assumes nothing.
use Rattle.std.specs.Prelude.{ℕ, suc, ◌+◌, ◌≤◌, ◌<◌, ◌≡◌, List, [], ◌∷◌, length, take, set}
use Rattle.model.specs.Lists.{times}
use Rattle.model.specs.Layout.{header, height_word, NodeVal, nth, Arena}
use Rattle.model.specs.Tree.{Tree, Frame, Ctx, top, under, Whole, plug}
use Rattle.model.specs.Parting.{trimmed}
use Rattle.store.specs.Links.{with_body}
use Rattle.balance.specs.Moves.{Shaped}
use Rattle.standing.specs.Totals.{due, TotalsBut, Totals, recount}
use Rattle.totals.specs.Settling.{above, Part}

-- the node n with its first pairs alone, as many as `at`, and the edges beside them
abbrev pub shortened : List NodeVal → ℕ → ℕ → List NodeVal
shortened ns n at = set ns n (with_body (nth ns n) (take at (nth ns n).pairs) (take (at + 1) (nth ns n).edges))

-- and with its count set right
abbrev pub cut_node : List NodeVal → ℕ → ℕ → List NodeVal
cut_node ns n at = recount (shortened ns n at) n

pub record CutReady (ns : List NodeVal) (n at : ℕ) : Type 0 where
  pub node : n < length ns
  pub place : at ≤ length (nth ns n).pairs
  pub shaped : Shaped (shortened ns n at) n
  pub few : due (shortened ns n at) n < 18446744073709551616

-- the numbers of the nodes on a way
abbrev pub spine : {h : ℕ} → Ctx h → List ℕ
spine top = []
spine (under f c) = f.no ∷ spine c

-- what a cut is to leave: of the nodes that it began with those of `left` unchanged, and the tree `whole`
pub record Goal : Type 0 where
  pub nodes : List NodeVal
  pub left : List ℕ
  pub free : List ℕ
  pub whole : Whole

-- on the way there: below its edge `at`, the node n is cut
pub record Trims (w hd : List ℕ) (g : Goal) (n at levels : ℕ) : Type 0 where
  pub height : ℕ
  pub frame : Frame (Tree height)
  pub way : Ctx (suc height)
  pub tree : Tree height
  pub nodes : List NodeVal
  pub arena : Arena w hd nodes
  pub long : length nodes ≡ length g.nodes
  pub stand : Part nodes (under frame way) tree g.free
  pub node_is : frame.no ≡ n
  pub place_is : length frame.left ≡ at
  pub deep : above way ≤ levels
  pub told : TotalsBut (n ∷ []) nodes
  pub apart : (m : ℕ) → times m g.left + times m (spine (under frame way)) ≤ 1
  pub others : (m : ℕ) → 1 ≤ times m g.left → nth nodes m ≡ nth g.nodes m
  pub going : plug (trimmed (under frame way)) tree ≡ g.whole

-- for some goal
pub record TrimsIn (w : List ℕ) (n at : ℕ) : Type 0 where
  pub head : List ℕ
  pub goal : Goal
  pub trims : Trims w head goal n at (header head height_word)

-- and there
pub record Trimmed (w hd : List ℕ) (g : Goal) : Type 0 where
  pub nodes : List NodeVal
  pub arena : Arena w hd nodes
  pub long : length nodes ≡ length g.nodes
  pub stand : Part nodes (top {h = g.whole.height}) g.whole.root g.free
  pub told : Totals nodes
  pub others : (m : ℕ) → 1 ≤ times m g.left → nth nodes m ≡ nth g.nodes m
