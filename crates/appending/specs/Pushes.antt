-- The arena's words during a load.
-- Assumes nothing.
use Rattle.std.specs.Prelude.{ℕ, zero, suc, ◌+◌, ◌-◌, ◌≤◌, ◌≡◌, false, List, [], length}
use Rattle.model.specs.Lists.{count}
use Rattle.model.specs.Tree.{Pair, Tree, Frame, Ctx, top, under, plug}
use Rattle.model.specs.Insert.{is_full}
use Rattle.standing.specs.Heads.{Rest, HoleBy, ClosedBy, Uncounted}
use Rattle.model.specs.Load.{Loading, climb, push}
use Rattle.loading.specs.Shapes.{Filling, Inner, pillar}
use Rattle.appending.specs.Asides.{AsideIn}

abbrev pub last_leaf : Ctx zero → ℕ
last_leaf top = 0
last_leaf (under f c) = f.no

-- how many pairs it has
abbrev pub last_long : Ctx zero → ℕ
last_long top = 0
last_long (under f c) = length f.left

-- the free numbers, from n on
abbrev pub free_from : Rest → ℕ → List ℕ
free_from g n = count n (g.size - n)

-- the words are the load so far, whatever the counts, and `leaf` is its last leaf
pub record LoadIn (w : List ℕ) (g : Rest) (leaf : ℕ) (l : Loading) : Type 0 where
  pub held : ClosedBy Uncounted w g (record { whole = plug l.way tt; free = free_from g l.next })
  pub leaf_is : last_leaf l.way ≡ leaf
  pub filling : Filling l.way
  pub inner : Inner l.way

-- and there is room for a push of p
pub record PushIn (w : List ℕ) (leaf : ℕ) (p : Pair) : Type 0 where
  pub rest : Rest
  pub so_far : Loading
  pub load : LoadIn w rest leaf so_far
  pub room : (push p so_far).next ≤ rest.size

-- the push of p is going to t: it has come to the full node `node`, the root of so many levels
pub record Rising (w : List ℕ) (g : Rest) (node levels : ℕ) (p : Pair) (t : Loading) : Type 0 where
  pub height : ℕ
  pub way : Ctx (suc height)
  pub tree : Tree (suc height)
  pub next : ℕ
  pub held : HoleBy Uncounted w g way tree (free_from g next)
  pub node_is : tree.no ≡ node
  pub levels_is : suc height ≡ levels
  pub filling : Filling way
  pub room : t.next ≤ g.size
  pub same : climb way tree p next ≡ t

-- it has come to the node `node`, which has room, so many levels below it
pub record Roomy (w : List ℕ) (g : Rest) (node levels : ℕ) (p : Pair) (t : Loading) : Type 0 where
  pub height : ℕ
  pub way : Ctx (suc (suc height))
  pub frame : Frame (Tree (suc height))
  pub tree : Tree (suc height)
  pub next : ℕ
  pub held : HoleBy Uncounted w g (under frame way) tree (free_from g next)
  pub node_is : frame.no ≡ node
  pub levels_is : suc height ≡ levels
  pub last : frame.right ≡ []
  pub fits : is_full frame ≡ false
  pub room : t.next ≤ g.size
  pub same : climb (under frame way) tree p next ≡ t

-- there are such
pub record RisingIn (w : List ℕ) (node levels : ℕ) : Type 0 where
  pub rest : Rest
  pub pair : Pair
  pub end : Loading
  pub rising : Rising w rest node levels pair end

-- ---- the new right side

-- the right side has so many levels, from the number n on, and its top is `top`
pub record Building (w : List ℕ) (g : Rest) {h : ℕ} (c : Ctx (suc h)) (x : Tree (suc h)) (n levels top : ℕ) : Type 0 where
  pub below : ℕ
  pub levels_is : suc below ≡ levels
  pub top_is : n + below ≡ top
  pub held : AsideIn w g c x (suc below) (pillar (suc below) n) (free_from g (n + suc below))

-- a hole, and nodes enough for so many levels
pub record Place (w : List ℕ) (levels : ℕ) : Type 0 where
  pub rest : Rest
  pub height : ℕ
  pub way : Ctx (suc height)
  pub tree : Tree (suc height)
  pub next : ℕ
  pub held : HoleBy Uncounted w rest way tree (free_from rest next)
  pub some : 1 ≤ levels
  pub room : next + levels ≤ rest.size
