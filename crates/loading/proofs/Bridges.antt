-- The pushes and the stocking in the form in which code makes them: a new right side is a tree of empty nodes, put in beside the hole as an
-- insertion does where there is room; a new root is an empty node on top first; a child that lacks nothing stays.
-- Assumes nothing.
use Prim.Native.Nat.{ℕ, zero, suc, ◌+◌, ◌-◌, ◌≤◌, ◌<◌}
use native.Mathlib.Omega.{arith}
use mathlib.Core.Path.{◌≡◌, refl, ap, ◌∙◌, sym}
use mathlib.Core.Bool.{false}
use mathlib.Core.List.{List, [], ◌∷◌, ◌++◌, append-nil}
use lib.ListN.{length}
use Rattle.model.specs.Lists.{count, times}
use Rattle.model.specs.Layout.{least}
use Rattle.model.specs.Tree.{Pair, Item, Node, Tree, Frame, Ctx, top, under, plug, Twin, flat, has}
use Rattle.model.specs.Search.{last_edge}
use Rattle.model.specs.Insert.{left, is_full, rise, cut}
use Rattle.model.specs.Remove.{join, staying}
use Rattle.model.proofs.Climb.{rise_fits}
use Rattle.model.proofs.Cut.{join_cut}
use Rattle.model.specs.Load.{Loading, opened, climb, push, short, lent, lend_last}
use Rattle.model.specs.Room.{nodes_for}
pub use Rattle.loading.specs.Shapes.{pillar}
use Rattle.loading.proofs.Pushing.{climb_room, pushed, count_last, Filled, push_filled}
use Rattle.loading.proofs.Counting.{filled_nodes}
use Rattle.loading.proofs.Least.{nodes_more}

-- ---- the right side

pub opened_plug : (h : ℕ) (c : Ctx h) (n : ℕ) → plug (opened h c n) tt ≡ plug c (pillar h n)
opened_plug zero c n = refl
opened_plug (suc h) c n = opened_plug h (under (record { no = n + h; left = []; right = [] }) c) n

-- its way is that down to the last leaf edge
pub opened_last : (h : ℕ) (c : Ctx h) (n : ℕ) → last_edge h c (pillar h n) ≡ opened h c n
opened_last zero c n = refl
opened_last (suc h) c n = opened_last h (under (record { no = n + h; left = []; right = [] }) c) n

pub pillar_flat : (h n : ℕ) → flat h (pillar h n) ≡ []
pillar_flat zero n = refl
pillar_flat (suc h) n = append-nil (flat h (pillar h n)) ∙ pillar_flat h n

pub pillar_has : (m h n : ℕ) → has m h (pillar h n) ≡ times m (count n h)
pillar_has m zero n = refl
pillar_has m (suc h) n = omega (arith, pillar_has m h n, count_last m n h)

-- ---- a push

-- past the root: as if an empty root stood on top already, with the next number
pub climb_root : (h : ℕ) (x : Tree h) (p : Pair) (n : ℕ) → climb {h = h} (top {h = h}) x p n ≡ climb {h = h} (under (record { no = n; left = []; right = [] }) top) x p (n + 1)
climb_root h x p n = refl

-- where there is room: what an insertion makes of the pair and the new right side
pub climb_rise : {h : ℕ} (f : Frame (Tree h)) (c : Ctx (suc h)) (x : Tree h) (p : Pair) (n : ℕ) (free : List ℕ) → is_full f ≡ false
    → plug (climb (under f c) x p n).way tt ≡ (rise (under f c) x p (pillar h n) free).whole
climb_rise {h} f c x p n free e =
    ap (λ (l : Loading). plug l.way tt) (climb_room f c x p n e)
    ∙ (opened_plug h (under (pushed f c x p n) c) n ∙ sym (ap (λ g. g.whole) (rise_fits f c x p (pillar h n) free e)))

-- ---- the free chain while numbers are taken in turn

pub free_step : (size n : ℕ) → n < size → count n (size - n) ≡ n ∷ count (suc n) (size - suc n)
free_step size n l = let e : size - n ≡ suc (size - suc n) = omega arith in ap (count n) e

-- a push takes no more than there are
pub push_room : (run rest : List Pair) (p : Pair) (l : Loading) (size : ℕ) → Filled run l → nodes_for (length (run ++ p ∷ rest)) ≤ size → (push p l).next ≤ size
push_room run rest p l size o room =
    let i = filled_nodes (run ++ p ∷ []) (push p l) (push_filled run p l o) in
    let m = nodes_more (length (run ++ p ∷ [])) (length (run ++ p ∷ rest)) (shorter run) in
    omega arith
  where
    shorter : (run : List Pair) → length (run ++ p ∷ []) ≤ length (run ++ p ∷ rest)
    shorter [] = omega arith
    shorter (q ∷ run) = omega (arith, shorter run)

-- ---- the stocking

-- a child of 5 or more stays as it is
pub lend_none : {A : Type 0} (n : ℕ) (x : Item (Node A)) (l : List (Item (Node A))) (e : Node A) → least ≤ length e.rest → lend_last n (x ∷ l) e [] ≡ record { frame = record { no = n; left = x ∷ l; right = [] }; child = e }
lend_none {A} n x l e h =
    let w : Twin (Node A) = record { left = x.edge; pair = x.pair; right = e } in
    let z : staying left (short e) w ≡ length x.edge.rest = omega arith in
    ap (λ i. lent n l (cut i e.no x.pair (join w))) z ∙ ap (lent n l) (join_cut w)
