-- The arena's words during the climb of an insertion: a tree with a hole and a tree beside it, or a whole tree again.
-- Assumes nothing.
use Rattle.std.specs.Prelude.{ℕ, suc, ◌+◌, pred, ◌≤◌, ◌≡◌, true, false, List, [], ◌∷◌, length}
use Rattle.model.specs.Layout.{largest_height, NodeVal, nth, Arena}
use Rattle.model.specs.Tree.{Pair, Tree, Frame, Ctx, top, under, fill}
use Rattle.model.specs.Nodes.{untaken, Grown}
use Rattle.model.specs.Insert.{is_full, rise, halved, needed}
use Rattle.model.specs.Words.{root_no}
use Rattle.standing.specs.Standing.{root_of, Hole, Open}
use Rattle.standing.specs.Totals.{TotalsBut}
use Rattle.totals.specs.Settling.{ample}
use Rattle.standing.specs.Heads.{Rest, head_words, top_of, ClosedIn}

-- the levels above a way's hole
abbrev pub depth : {h : ℕ} → Ctx h → ℕ
depth top = 0
depth (under f c) = suc (depth c)

-- the words are a tree with a hole that x fills, and y beside it; the counts are right but perhaps those of xs
pub record OpenBut (xs : List ℕ) (w : List ℕ) (g : Rest) {h : ℕ} (c : Ctx h) (x y : Tree h) (free : List ℕ) : Type 0 where
  pub nodes : List NodeVal
  pub arena : Arena w (head_words g (root_of c (root_no h x)) (pred (top_of c)) free) nodes
  pub stand : Open nodes c x y free
  pub many : length nodes ≡ g.size
  pub told : TotalsBut xs nodes

abbrev pub OpenIn : List ℕ → Rest → {h : ℕ} → Ctx h → Tree h → Tree h → List ℕ → Type 0
OpenIn w g c x y free = OpenBut [] w g c x y free

-- a hole at the edge `at` of the node `node`, with h levels below its edges, and a tree `child` to stand right of it
pub record Gap (w : List ℕ) (h node at child : ℕ) : Type 0 where
  pub rest : Rest
  pub way : Ctx (suc h)
  pub frame : Frame (Tree h)
  pub low : Tree h
  pub high : Tree h
  pub free : List ℕ
  pub held : OpenIn w rest (under frame way) low high free
  pub node_is : frame.no ≡ node
  pub at_is : length frame.left ≡ at
  pub child_is : root_no h high ≡ child
  pub enough : is_full frame ≡ true → 1 ≤ length free

-- the climb is over
abbrev pub Fitted : {w : List ℕ} {h node at child : ℕ} → Gap w h node at child → Pair → List ℕ → Type 0
Fitted s p w = ClosedIn w s.rest (rise (under s.frame s.way) s.low p s.high s.free)

-- the node was split: the pair up and the node `right` are to go into the node above
pub record RisenBut (xs : List ℕ) {w : List ℕ} {h node at child : ℕ} (s : Gap w h node at child) (p : Pair) (w' : List ℕ) (up : Pair) (right : ℕ) : Type 0 where
  pub full : is_full s.frame ≡ true
  pub pair_is : (halved s.frame s.way s.low p s.high s.free).pair ≡ up
  pub right_is : (halved s.frame s.way s.low p s.high s.free).right.no ≡ right
  pub held : OpenBut xs w' s.rest s.way (halved s.frame s.way s.low p s.high s.free).left (halved s.frame s.way s.low p s.high s.free).right (untaken s.free)

abbrev pub Risen : {w : List ℕ} {h node at child : ℕ} → Gap w h node at child → Pair → List ℕ → Pair → ℕ → Type 0
Risen s p w' up right = RisenBut [] s p w' up right

-- ---- the same before the counts are set right

-- the pair p and the tree y put in right of x, in the node of f
pub record FitRaw (w : List ℕ) (g : Rest) {h : ℕ} (f : Frame (Tree h)) (c : Ctx (suc h)) (x y : Tree h) (p : Pair) (free : List ℕ) : Type 0 where
  pub nodes : List NodeVal
  pub arena : Arena w (head_words g (root_of c f.no) (pred (top_of c)) free) nodes
  pub stand : Hole nodes c (fill f.no f.left x (record { pair = p; edge = y } ∷ f.right)) free
  pub many : length nodes ≡ g.size
  pub told : TotalsBut (f.no ∷ []) nodes
  pub low : (nth nodes f.no).total ≤ ample

pub record FittedRaw {w : List ℕ} {h node at child : ℕ} (s : Gap w h node at child) (p : Pair) (w' : List ℕ) : Type 0 where
  pub room : is_full s.frame ≡ false
  pub raw : FitRaw w' s.rest s.frame s.way s.low s.high p s.free

pub record RisenRaw {w : List ℕ} {h node at child : ℕ} (s : Gap w h node at child) (p : Pair) (w' : List ℕ) (up : Pair) (right : ℕ) : Type 0 where
  pub risen : RisenBut (s.frame.no ∷ (halved s.frame s.way s.low p s.high s.free).right.no ∷ []) s p w' up right
  pub low : (nth risen.held.nodes s.frame.no).total ≤ ample

-- the climb is going to t: the pair p and the node `right` are to go up from the node `node`, so many levels below the root
pub record Climbing (w : List ℕ) (g : Rest) (node levels : ℕ) (p : Pair) (right : ℕ) (t : Grown) : Type 0 where
  pub height : ℕ
  pub way : Ctx (suc height)
  pub low : Tree (suc height)
  pub high : Tree (suc height)
  pub free : List ℕ
  pub held : OpenIn w g way low high free
  pub node_is : low.no ≡ node
  pub right_is : high.no ≡ right
  pub levels_is : depth way ≡ levels
  pub tall : top_of way ≤ largest_height + 1
  pub enough : needed way ≤ length free
  pub same : rise way low p high free ≡ t

-- a gap from which the climb goes to t, whether the pair fits or the node is split
pub record Going (w : List ℕ) (g : Rest) (h node at child levels : ℕ) (p : Pair) (t : Grown) : Type 0 where
  pub gap : Gap w h node at child
  pub fit : (w' : List ℕ) → Fitted gap p w' → ClosedIn w' g t
  pub split : (w' : List ℕ) (up : Pair) (right : ℕ) → Risen gap p w' up right → Climbing w' g node levels up right t
