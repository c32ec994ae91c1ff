-- Counts set right after a pair has been put in, and after a split.
-- Assumes nothing.
use Prim.Native.Nat.{ℕ, zero, suc, pred, ◌≤◌, ◌<◌}
use native.Mathlib.Decide.{ℕ_discrete}
use native.Mathlib.Omega.{arith}
use mathlib.Core.Path.{◌≡◌, refl, sym, ap, ◌∙◌, subst}
use mathlib.Core.List.{List, [], ◌∷◌}
use lib.ListN.{length}
use Rattle.model.specs.Layout.{none, largest_count, NodeVal, nth, Arena}
use Rattle.model.specs.Tree.{Pair, Tree, Frame, Ctx, under, plug, fill, flat}
use Rattle.model.specs.Words.{root_no, kind}
use Rattle.model.proofs.Lists.{one_same, one_other}
use Rattle.node.specs.Reading.{Has}
use Rattle.store.specs.Links.{Body}
use Rattle.balance.specs.Moves.{Shaped}
use Rattle.standing.specs.Kept.{Kept}
use Rattle.standing.specs.Standing.{numbered, root_of, Open, Loose}
use Rattle.standing.specs.Heads.{Rest, head_words, top_of, ClosedIn}
use Rattle.standing.specs.Totals.{due, TotalsBut, recount}
use Rattle.standing.proofs.Leads.{one_self, link_parent}
use Rattle.standing.proofs.Frames.{stands_kept, way_kept, chain_kept}
use Rattle.standing.proofs.Totals.{past, put_other, recount_up}
use Rattle.standing.proofs.Heads.{plug_root, plug_top}
use Rattle.standing.proofs.Scenes.{close}
use Rattle.shrinking.proofs.Steps.{shaped}
use Rattle.totals.specs.Settling.{above, ample, Part, Settles}
use Rattle.totals.proofs.Settling.{top_above, due_flat, due_here, flat_few, part_few, arena_small, put_kept, hole_part, hole_kept, part_out}
use Rattle.totals.proofs.Siblings.{SetCall, SettleCall}
use Rattle.growing.specs.Climbs.{OpenBut, OpenIn, FitRaw}

deep_enough : {h : ℕ} (c : Ctx (suc h)) → above c ≤ pred (top_of c)
deep_enough c = omega (arith, top_above c)

-- ---- a tree beside a hole

pub open_part : {ns : List NodeVal} {h : ℕ} (c : Ctx h) (x y : Tree h) (free : List ℕ) → Open ns c x y free → Part ns c x free
open_part c x y free O = record {
  few = O.few;
  way = O.way;
  tree = O.low;
  links = O.links;
  root = O.root;
  once = λ m. omega (arith, O.once m);
  within = λ m u. O.within m (omega arith);
}

loose_same : {ns ns' : List NodeVal} (h : ℕ) (y : Tree h) → Kept ns ns' [] [] → Loose ns h y → Loose ns' h y
loose_same zero y K l = tt
loose_same (suc h) y K l = link_parent (K.roots y.no refl l) ∙ l

pub open_kept : {ns ns' : List NodeVal} {h : ℕ} (c : Ctx h) (x y : Tree h) (free : List ℕ) → Kept ns ns' [] [] → Open ns c x y free → Open ns' c x y free
open_kept {ns} {ns'} {h} c x y free K O = record {
  few = subst (λ (k : ℕ). k ≤ largest_count) (sym K.long) O.few;
  way = way_kept ns ns' [] [] K c (root_no h x) (λ q. omega (arith, O.once q)) O.way;
  low = stands_kept ns ns' [] [] K h x (λ q. omega (arith, O.once q)) O.low;
  high = stands_kept ns ns' [] [] K h y (λ q. omega (arith, O.once q)) O.high;
  loose = loose_same h y K O.loose;
  chain = chain_kept ns ns' [] [] K free (λ q. omega (arith, O.once q)) O.chain;
  links = K.links;
  root = K.roots (root_of c (root_no h x)) refl (link_parent O.root) ∙ O.root;
  once = O.once;
  within = λ m u. subst (λ (k : ℕ). m < k) (sym K.long) (O.within m u);
  rises = O.rises;
  all = λ m u. O.all m (subst (λ (k : ℕ). m < k) K.long u);
}

-- the count of a node with a hole in it is not too large
pub node_low : {w : List ℕ} {g : Rest} {h : ℕ} (f : Frame (Tree h)) (c : Ctx (suc h)) (x y : Tree h) (free : List ℕ) (H : OpenIn w g (under f c) x y free) → (nth H.nodes f.no).total ≤ ample
node_low {h = h} f c x y free H =
    let t = fill f.no f.left x f.right in
    let Z = part_out f c x free (open_part (under f c) x y free H.stand) in
    omega (arith, H.told f.no refl, due_here c t free Z (λ q u. H.told q refl), part_few c t free H.arena Z)

-- ---- a pair put in

module _ {w : List ℕ} {g : Rest} {h : ℕ} (f : Frame (Tree h)) (c : Ctx (suc h)) (x y : Tree h) (p : Pair) (free : List ℕ) (R : FitRaw w g f c x y p free) where
  abbrev fitted : Frame (Tree h)
  fitted = record { no = f.no; left = f.left; right = record { pair = p; edge = y } ∷ f.right }

  abbrev node : Tree (suc h)
  node = fill f.no f.left x (record { pair = p; edge = y } ∷ f.right)

  abbrev hd : List ℕ
  hd = head_words g (root_of c f.no) (pred (top_of c)) free

  pub fit_settles : Settles hd R.nodes f.no
  fit_settles = record {
    lone = record { height = h; way = c; tree = node; free = free; stand = hole_part c node free R.stand; node_is = refl; deep = deep_enough c; told = R.told };
    low = R.low;
  }

  pub fit_done : (w' : List ℕ) → SettleCall w w' f.no → ClosedIn w' g (record { whole = plug (under fitted c) x; free = free })
  fit_done w' call =
      let S = call hd R.nodes fit_settles R.arena in
      record {
        nodes = S.nodes;
        arena = rw (plug_root (under fitted c) x, plug_top (under fitted c) x) S.arena;
        stand = close c node free (hole_kept c node free S.same R.stand);
        many = S.same.long ∙ R.many;
        told = S.told;
      }

-- ---- a node split: first its right half, which no edge leads to, then the left one

module _ {w : List ℕ} {g : Rest} {h : ℕ} (c : Ctx (suc h)) (a b : Tree (suc h)) (free : List ℕ) (B : OpenBut (a.no ∷ b.no ∷ []) w g c a b free) (low : (nth B.nodes a.no).total ≤ ample) where
  abbrev ns : List NodeVal
  ns = B.nodes

  abbrev O : Open B.nodes c a b free
  O = B.stand

  abbrev hdr : List ℕ
  hdr = head_words g (root_of c a.no) (pred (top_of c)) free

  b_inside : b.no < length B.nodes
  b_inside = O.within b.no (omega (arith, one_self b.no))

  apart : a.no ≡ b.no → ⊥
  apart e = omega (arith, O.once b.no, one_self b.no, one_same a.no b.no e)

  right_shaped : Shaped B.nodes b.no
  right_shaped = shaped B.nodes O.links b.no (root_no h b.first) (numbered h b.rest) b_inside h O.high.0

  right_due : due B.nodes b.no ≡ length (flat (suc h) b)
  right_due = due_flat B.nodes (a.no ∷ b.no ∷ []) B.told h b (λ q. omega (arith, O.once q)) O.high

  pub right_in : Has w (λ hd ns. Shaped ns b.no × (due ns b.no < 18446744073709551616))
  right_in = record {
    head = hdr;
    nodes = B.nodes;
    arena = B.arena;
    holds = (right_shaped, omega (arith, right_due, flat_few B.nodes (arena_small B.nodes B.arena) O.few (suc h) b O.high (λ m. omega (arith, O.once m)) (λ m u. O.within m (omega arith))));
  }

  kind_live : (h : ℕ) → 1 ≤ kind h
  kind_live zero = omega arith
  kind_live (suc h) = omega arith

  module _ (w₁ : List ℕ) (set : SetCall w w₁ b.no) where
    K : Kept B.nodes (recount B.nodes b.no) [] []
    K = put_kept B.nodes O.links b.no (due B.nodes b.no) (subst (λ (k : ℕ). 1 ≤ k) (sym (ap (λ (v : Body). v.state) O.high.0)) (kind_live h))

    left_told : TotalsBut (a.no ∷ []) (recount B.nodes b.no)
    left_told q u = go (ℕ_discrete q none)
      where
        go : Dec (q ≡ none) → (nth (recount B.nodes b.no) q).total ≡ due (recount B.nodes b.no) q
        go (yes z) = rw (past (recount B.nodes b.no) q (omega (arith, K.long, O.few))) refl
        go (no d) =
            let t = recount_up B.nodes O.links b.no (a.no ∷ []) b_inside (λ q u. B.told q (omega arith)) in
            t q (omega (arith, one_other (nth B.nodes b.no).parent q (λ e. d (sym e ∙ O.loose))))

    mid : Open (recount B.nodes b.no) c a b free
    mid = open_kept c a b free K O

    mid_arena : Arena w₁ hdr (recount B.nodes b.no)
    mid_arena = set hdr B.nodes right_shaped B.arena

    left_settles : Settles hdr (recount B.nodes b.no) a.no
    left_settles = record {
      lone = record { height = h; way = c; tree = a; free = free; stand = open_part c a b free mid; node_is = refl; deep = deep_enough c; told = left_told };
      low = subst (λ (k : ℕ). k ≤ ample) (sym (put_other B.nodes b.no (due B.nodes b.no) a.no apart)) low;
    }

    pub left_in : Has w₁ (λ hd ns. Settles hd ns a.no)
    left_in = record { head = hdr; nodes = _; arena = mid_arena; holds = left_settles }

    pub split_done : (w₂ : List ℕ) → SettleCall w₁ w₂ a.no → OpenIn w₂ g c a b free
    split_done w₂ call =
        let S = call hdr _ left_settles mid_arena in
        record {
          nodes = S.nodes;
          arena = S.arena;
          stand = open_kept c a b free S.same mid;
          many = S.same.long ∙ (K.long ∙ B.many);
          told = S.told;
        }
