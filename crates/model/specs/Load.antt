-- Loading a run that rises: append.rs's bulk_push, pair by pair, and fix_right_border_of_plentiful.
-- Assumes nothing.
use Rattle.std.specs.Prelude.{ℕ, zero, suc, ◌+◌, ◌-◌, ◌≡◌, true, false, List, [], ◌∷◌, length}
use Rattle.model.specs.Lists.{count}
use Rattle.model.specs.Layout.{least}
use Rattle.model.specs.Tree.{Pair, Item, Node, Tree, Frame, Ctx, top, under, Whole, plug, fill, Twin}
use Rattle.model.specs.Insert.{left, is_full}
use Rattle.model.specs.Remove.{steal}
use Rattle.model.specs.Mark.{Mark, unseen, seen}
use Rattle.model.specs.State.{State}

-- ---- the pushes

-- the way to the last leaf edge, where the next pair comes, and the lowest number not taken
pub record Loading : Type 0 where
  pub way : Ctx zero
  pub next : ℕ

-- an empty right side in a hole: h nodes, the leaf with the lowest number n, each node above one more
abbrev pub opened : (h : ℕ) → Ctx h → ℕ → Ctx zero
opened zero c n = c
opened (suc h) c n = opened h (under (record { no = n + h; left = []; right = [] }) c) n

-- the pair p comes to the hole, which the tree x fills: into the node there, with an empty right side after it, if that has room, else to
-- the hole above; above the root, a new root first. At a leaf edge x is a gap, and the right side is one too
abbrev pub climb : {h : ℕ} → Ctx h → Tree h → Pair → ℕ → Loading
climb (top {h = h}) x p n = record { way = opened h (under (record { no = n; left = record { pair = p; edge = x } ∷ []; right = [] }) top) (n + 1); next = n + 1 + h }
climb (under {h = h} f c) x p n =
    elim (is_full f) [
      | false ↦ record { way = opened h (under (record { no = f.no; left = record { pair = p; edge = x } ∷ f.left; right = f.right }) c) n; next = n + h }
      | true ↦ climb c (fill f.no f.left x f.right) p n
    ]

abbrev pub push : Pair → Loading → Loading
push p l = climb l.way tt p l.next

abbrev pub push_all : List Pair → Loading → Loading
push_all [] l = l
push_all (p ∷ ps) l = push_all ps (push p l)

-- an empty leaf root, node 0
abbrev pub begun : Loading
begun = record { way = under (record { no = 0; left = []; right = [] }) top; next = 1 }

-- ---- the right border stocked to 5, from the top down

-- a parent with a hole, and the border child in it
pub record Bordering (A : Type 0) : Type 0 where
  pub frame : Frame (Node A)
  pub child : Node A

-- the last child and its left neighbour: what the child lacks to 5 is moved. (Nothing is, where it lacks nothing)
abbrev pub short : {A : Type 0} → Node A → ℕ
short t = least - length t.rest

abbrev pub lent : {A : Type 0} → ℕ → List (Item (Node A)) → Twin (Node A) → Bordering A
lent n l w = record { frame = record { no = n; left = record { pair = w.pair; edge = w.left } ∷ l; right = [] }; child = w.right }

abbrev pub lend_last : {A : Type 0} → ℕ → List (Item (Node A)) → Node A → List (Item (Node A)) → Bordering A
lend_last n [] e [] = record { frame = record { no = n; left = []; right = [] }; child = e }
lend_last n (x ∷ l) e [] = lent n l (steal left (short e) (record { left = x.edge; pair = x.pair; right = e }))
lend_last n l e (x ∷ r) = lend_last n (record { pair = x.pair; edge = e } ∷ l) x.edge r

abbrev pub plenty_down : (h : ℕ) → Ctx (suc h) → Tree (suc h) → Whole
plenty_down zero c t = plug c t
plenty_down (suc h) c t =
    let b = lend_last t.no [] t.first t.rest in
    plenty_down h (under b.frame c) b.child

abbrev pub plenty_of : (h : ℕ) → Tree h → Whole
plenty_of zero t = record { height = 0; root = t }
plenty_of (suc h) t = plenty_down h top t

abbrev pub plenty : Whole → Whole
plenty w = plenty_of w.height w.root

-- ---- the load

-- a run's words as pairs, key and value in turn. (A word left over is no pair)
abbrev pub pairs_of : List ℕ → List Pair
pairs_of [] = []
pairs_of (k ∷ []) = []
pairs_of (k ∷ v ∷ ws) = record { key = k; val = v } ∷ pairs_of ws

-- no word is left over
pub record Even (n : ℕ) : Type 0 where
  pub half : ℕ
  pub is : n ≡ half + half

-- the mark that a run brings: its last key
abbrev pub last_mark : List Pair → Mark
last_mark [] = unseen
last_mark (p ∷ []) = seen p.key
last_mark (p ∷ q ∷ ps) = last_mark (q ∷ ps)

-- into n nodes, with a mark
abbrev pub loaded_with : Mark → ℕ → List Pair → State
loaded_with m n run =
    let l = push_all run begun in
    record { size = n; whole = plenty (plug l.way tt); free = count l.next (n - l.next); mark = m }

abbrev pub loaded : ℕ → List Pair → State
loaded n run = loaded_with (last_mark run) n run
