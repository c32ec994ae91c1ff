-- The free nodes of a tree that stands in the nodes, as the store asks for them; and a node returned to them.
-- Assumes nothing.
use Prim.Native.Nat.{ℕ, zero, suc, ◌+◌, ◌≤◌, ◌<◌}
use native.Mathlib.Nat.{not-suc-le-zero, eq-zero-or-pos}
use native.Mathlib.Omega.{arith}
use mathlib.Core.Path.{◌≡◌, refl, sym, ap, ◌∙◌}
use mathlib.Core.Logic.{⊎_elim}
use mathlib.Core.List.{List, [], ◌∷◌}
use lib.ListN.{length, set, length-set}
use lib.Seq.{get_or-set_other}
use Rattle.model.specs.Lists.{one, times}
use Rattle.model.specs.Layout.{NodeVal, nth, blank}
use Rattle.model.specs.Tree.{Item, Tree, Ctx, top, under, has_in, has, has_ctx}
use Rattle.model.specs.Words.{kind, root_no, first_or, free_val}
use Rattle.model.specs.Sound.{AllIn}
use Rattle.model.proofs.Lists.{same_or, one_other, times_has}
use Rattle.model.proofs.Frees.{all_times}
use Rattle.store.specs.Links.{Body, body_of, first_free, free_nodes, Frees, return_node}
use Rattle.store.proofs.Returns.{return_cases}
use Rattle.store.proofs.Searches.{free_states}
use Rattle.standing.specs.Kept.{Links, leads, Kept}
use Rattle.standing.specs.Standing.{Stands, Way, Hole, Aside}
use Rattle.standing.proofs.Changes.{free_unled, kept_trans, kept_more, anew_kept}
use Rattle.standing.proofs.Frames.{chain_kept}

-- ---- a node of the tree has not the state of a free one

kind_live : (h : ℕ) → 1 ≤ kind h
kind_live zero = omega arith
kind_live (suc h) = omega arith

module _ (ns : List NodeVal) (m : ℕ) where
  live_of : (h n : ℕ) (b : Body) → b.state ≡ kind h → body_of (nth ns n) ≡ b → 1 ≤ one n m → 1 ≤ (nth ns m).state
  live_of h n b k e u = ⊎_elim
      (λ (z : n ≡ m).
      let s : (nth ns n).state ≡ kind h = ap (λ (t : Body). t.state) e ∙ k in
      let y : 1 ≤ (nth ns n).state = omega (arith, kind_live h) in
      rw z at y)
      (λ (z : n ≡ m → ⊥). absurd (omega (arith, one_other n m z)))
      (same_or n m)

  -- in one of two
  either : (a b : ℕ) (P : Type 0) → 1 ≤ a + b → (1 ≤ a → P) → (1 ≤ b → P) → P
  either a b P u f g = ⊎_elim (λ (z : a ≡ 0). g (omega arith)) (λ (z : 0 < a). f z) (eq-zero-or-pos a)

  live_items : (h : ℕ) → ((t : Tree h) → Stands ns h t → 1 ≤ has m h t → 1 ≤ (nth ns m).state) → (l : List (Item (Tree h))) → AllIn (Stands ns h) l → 1 ≤ has_in (has m h) l → 1 ≤ (nth ns m).state
  live_items h f [] a u = absurd (not-suc-le-zero u)
  live_items h f (x ∷ l) a u = either (has m h x.edge) (has_in (has m h) l) (1 ≤ (nth ns m).state) u (f x.edge a.0) (live_items h f l a.1)

  live_tree : (h : ℕ) (t : Tree h) → Stands ns h t → 1 ≤ has m h t → 1 ≤ (nth ns m).state
  live_tree zero t s u = absurd (not-suc-le-zero u)
  live_tree (suc h) t s u =
      either (one t.no m) (has m h t.first + has_in (has m h) t.rest) (1 ≤ (nth ns m).state) u (live_of h t.no _ refl s.0)
      (λ v. either (has m h t.first) (has_in (has m h) t.rest) (1 ≤ (nth ns m).state) v (live_tree h t.first s.1) (live_items h (live_tree h) t.rest s.2))

  live_way : {h : ℕ} (c : Ctx h) (k : ℕ) → Way ns c k → 1 ≤ has_ctx m c → 1 ≤ (nth ns m).state
  live_way top k w u = absurd (not-suc-le-zero u)
  live_way (under {h = h} f c) k w u =
      either (one f.no m + (has_in (has m h) f.left + has_in (has m h) f.right)) (has_ctx m c) (1 ≤ (nth ns m).state) u
      (λ v. either (one f.no m) (has_in (has m h) f.left + has_in (has m h) f.right) (1 ≤ (nth ns m).state) v (live_of h f.no _ refl w.0)
      (λ z. either (has_in (has m h) f.left) (has_in (has m h) f.right) (1 ≤ (nth ns m).state) z (live_items h (live_tree h) f.left w.1) (live_items h (live_tree h) f.right w.2)))
      (live_way c f.no w.3)

-- ---- the free nodes beside a tree

pub hole_frees : {ns : List NodeVal} {h : ℕ} (c : Ctx h) (t : Tree h) (free : List ℕ) → Hole ns c t free → (hd : List ℕ) → first_free hd ≡ first_or free → free_nodes hd ≡ length free → Frees hd ns free
hole_frees {ns} {h} c t free H hd ef en = record {
  few = H.few;
  first = ef;
  many = en;
  chain = H.chain;
  inside = all_times (λ x. x < length ns) free (λ m u. H.within m (omega arith));
  rises = H.rises;
  only = λ q o z.
      either ns q (has_ctx q c + has q h t) (times q free) (1 ≤ times q free) (H.all q o)
      (λ u. absurd (either ns q (has_ctx q c) (has q h t) ⊥ u (λ v. omega (arith, live_way ns q c (root_no h t) H.way v)) (λ v. omega (arith, live_tree ns q h t H.tree v))))
      (λ u. u);
}

pub open_frees : {ns : List NodeVal} {h : ℕ} (c : Ctx h) (x : Tree h) (j : ℕ) (y : Tree j) (free : List ℕ) → Aside ns c x j y free → (hd : List ℕ) → first_free hd ≡ first_or free → free_nodes hd ≡ length free → Frees hd ns free
open_frees {ns} {h} c x j y free O hd ef en = record {
  few = O.few;
  first = ef;
  many = en;
  chain = O.chain;
  inside = all_times (λ x. x < length ns) free (λ m u. O.within m (omega arith));
  rises = O.rises;
  only = λ q o z.
      either ns q (has_ctx q c + (has q h x + has q j y)) (times q free) (1 ≤ times q free) (O.all q o)
      (λ u. absurd (either ns q (has_ctx q c) (has q h x + has q j y) ⊥ u (λ v. omega (arith, live_way ns q c (root_no h x) O.way v))
      (λ v. either ns q (has q h x) (has q j y) ⊥ v (λ v. omega (arith, live_tree ns q h x O.low v)) (λ v. omega (arith, live_tree ns q j y O.high v)))))
      (λ u. u);
}

pub frees_kept : {ns ns' : List NodeVal} {hd : List ℕ} (free xs ys : List ℕ) → Kept ns ns' xs ys → ((q : ℕ) → times q free + times q xs ≤ 1) → ((q : ℕ) → (nth ns' q).state ≡ (nth ns q).state) → Frees hd ns free → Frees hd ns' free
frees_kept {ns} {ns'} free xs ys K z s F = record {
  few = rw K.long F.few;
  first = F.first;
  many = F.many;
  chain = chain_kept ns ns' xs ys K free z F.chain;
  inside = rw K.long F.inside;
  rises = F.rises;
  only = λ q o e. F.only q (rw K.long at o) (sym (s q) ∙ e);
}

-- ---- a node returned to them: no edge leads to it, nor to a free one

module _ (ns : List NodeVal) (L : Links ns) {hd : List ℕ} (free : List ℕ) (F : Frees hd ns free) (n : ℕ) (o : n < length ns) (unled : leads n ns ≡ 0) where
  first_kept : (k : ℕ) → Kept ns (set ns n (free_val k)) (n ∷ []) (n ∷ [])
  first_kept k = anew_kept ns L n (free_val k) o unled refl

  pub return_kept : Kept ns (return_node ns free n) (n ∷ free) (n ∷ free)
  return_kept = return_cases ns n o (λ s. Kept ns s (n ∷ free) (n ∷ free)) free
      (λ k. kept_more (n ∷ []) (n ∷ []) (n ∷ free) (n ∷ free) (λ q z. omega arith) (λ q z. omega arith) (first_kept k))
      (λ k p i l.
      let K = first_kept k in
      let e : nth (set ns n (free_val k)) p ≡ nth ns p = get_or-set_other ns n p (free_val k) blank (λ z. omega arith) in
      let s : (nth (set ns n (free_val k)) p).state ≡ 0 = ap (λ (v : NodeVal). v.state) e ∙ times_has (λ x. (nth ns x).state ≡ 0) free (free_states ns free F.chain) p i in
      let u : leads p (set ns n (free_val k)) ≡ 0 = free_unled (set ns n (free_val k)) K.links (rw length-set F.few) p s in
      let J = anew_kept (set ns n (free_val k)) K.links p (free_val n) (rw length-set (omega arith)) u refl in
      kept_trans (kept_more (n ∷ []) (n ∷ []) (n ∷ free) (n ∷ free) (λ q z. omega arith) (λ q z. omega arith) K)
      (kept_more (p ∷ []) (p ∷ []) (n ∷ free) (n ∷ free) (one_in p i) (one_in p i) J))
    where
      one_in : (p : ℕ) → 1 ≤ times p free → (q : ℕ) → times q (n ∷ free) ≡ 0 → times q (p ∷ []) ≡ 0
      one_in p i q z = ⊎_elim
          (λ (e : p ≡ q). absurd (omega (arith, ap (λ (t : ℕ). times t free) e)))
          (λ (d : p ≡ q → ⊥). omega (arith, one_other p q d))
          (same_or p q)
