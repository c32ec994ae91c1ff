-- Two children of a node and that node itself, with other bodies.
-- Assumes nothing.
use Prim.Native.Nat.{ℕ, ◌+◌, ◌≤◌, ◌<◌}
use mathlib.Core.Path.{◌≡◌, sym, ap, ◌∙◌}
use mathlib.Core.Logic.{◌≢◌}
use mathlib.Core.List.{List, [], ◌∷◌}
use native.Mathlib.Decide.{ℕ_discrete}
use native.Mathlib.Omega.{arith}
use lib.ListN.{length, get_or, set, length-set}
use lib.Seq.{get_or-set_same, get_or-set_other}
use Rattle.model.specs.Lists.{times}
use Rattle.model.specs.Layout.{largest_count, NodeVal, nth, blank}
use Rattle.model.proofs.Lists.{one_same, one_other}
use Rattle.store.specs.Links.{link_of}
use Rattle.balance.specs.Moves.{three}
use Rattle.standing.specs.Kept.{leads, Bodied}
use Rattle.standing.proofs.Leads.{leads_set}

-- the children l and r of p stand left and right of its pair i
pub record Siblings (ns : List NodeVal) (p i l r : ℕ) : Type 0 where
  pub few : length ns ≤ largest_count
  pub parent : p < length ns
  pub left : l < length ns
  pub right : r < length ns
  pub not_left : p ≢ l
  pub not_right : p ≢ r
  pub apart : l ≢ r
  pub inside : i + 1 < length (nth ns p).edges
  pub right_is : get_or (nth ns p).edges (i + 1) 0 ≡ r

module _ (ns : List NodeVal) (p i l r : ℕ) (B : Siblings ns p i l r) (P L R : NodeVal) where
  pub three_long : length (three ns p l r P L R) ≡ length ns
  three_long = length-set (set (set ns p P) l L) r R ∙ length-set (set ns p P) l L ∙ length-set ns p P

  pub three_r : nth (three ns p l r P L R) r ≡ R
  three_r = get_or-set_same (set (set ns p P) l L) r R blank (rw (length-set, length-set) B.right)

  pub three_l : nth (three ns p l r P L R) l ≡ L
  three_l = get_or-set_other (set (set ns p P) l L) r l R blank B.apart ∙ get_or-set_same (set ns p P) l L blank (rw length-set B.left)

  pub three_p : nth (three ns p l r P L R) p ≡ P
  three_p = get_or-set_other (set (set ns p P) l L) r p R blank B.not_right ∙ get_or-set_other (set ns p P) l p L blank B.not_left ∙ get_or-set_same ns p P blank B.parent

  pub three_other : (q : ℕ) → times q (p ∷ l ∷ r ∷ []) ≡ 0 → nth (three ns p l r P L R) q ≡ nth ns q
  three_other q z =
      get_or-set_other (set (set ns p P) l L) r q R blank (λ e. omega (arith, one_same r q (sym e)))
      ∙ get_or-set_other (set ns p P) l q L blank (λ e. omega (arith, one_same l q (sym e)))
      ∙ get_or-set_other ns p q P blank (λ e. omega (arith, one_same p q (sym e)))

  pub three_leads : (c : ℕ) → leads c (three ns p l r P L R) + (times c (nth ns p).edges + (times c (nth ns l).edges + times c (nth ns r).edges)) ≡ leads c ns + (times c P.edges + (times c L.edges + times c R.edges))
  three_leads c =
      let a = leads_set c ns p P B.parent in
      let b = leads_set c (set ns p P) l L (rw length-set B.left) in
      let d = leads_set c (set (set ns p P) l L) r R (rw (length-set, length-set) B.right) in
      let e : times c (nth (set ns p P) l).edges ≡ times c (nth ns l).edges = ap (λ (v : NodeVal). times c v.edges) (get_or-set_other ns p l P blank (λ z. B.not_left (sym z))) in
      let f : times c (nth (set (set ns p P) l L) r).edges ≡ times c (nth ns r).edges = ap (λ (v : NodeVal). times c v.edges) (get_or-set_other (set ns p P) l r L blank (λ z. B.apart (sym z)) ∙ get_or-set_other ns p r P blank (λ z. B.not_right (sym z))) in
      omega arith

  pub data Which (q : ℕ) : Type 0 where
    is_p : q ≡ p → Which q
    is_l : q ≡ l → Which q
    is_r : q ≡ r → Which q
    none_of : times q (p ∷ l ∷ r ∷ []) ≡ 0 → Which q

  pub which : (q : ℕ) → Which q
  which q = go (ℕ_discrete q p) (ℕ_discrete q l) (ℕ_discrete q r)
    where
      go : Dec (q ≡ p) → Dec (q ≡ l) → Dec (q ≡ r) → Which q
      go (yes e) a b = is_p e
      go (no d) (yes e) b = is_l e
      go (no d) (no f) (yes e) = is_r e
      go (no d) (no f) (no g) = none_of (omega (arith, one_other p q (λ e. d (sym e)), one_other l q (λ e. f (sym e)), one_other r q (λ e. g (sym e))))

  module _ (lp : link_of P ≡ link_of (nth ns p)) (ll : link_of L ≡ link_of (nth ns l)) (ly : link_of R ≡ link_of (nth ns r))
      (sp : P.state ≡ (nth ns p).state) (sl : L.state ≡ (nth ns l).state) (sr : R.state ≡ (nth ns r).state) where
    pub three_bodied : Bodied ns (three ns p l r P L R) (p ∷ l ∷ r ∷ [])
    three_bodied = record { long = three_long; linking = λ q. lk q (which q); states = λ q. st q (which q); others = three_other }
      where
        lk : (q : ℕ) → Which q → link_of (nth (three ns p l r P L R) q) ≡ link_of (nth ns q)
        lk q (is_p e) = rw (e, three_p) lp
        lk q (is_l e) = rw (e, three_l) ll
        lk q (is_r e) = rw (e, three_r) ly
        lk q (none_of z) = ap link_of (three_other q z)

        st : (q : ℕ) → Which q → (nth (three ns p l r P L R) q).state ≡ (nth ns q).state
        st q (is_p e) = rw (e, three_p) sp
        st q (is_l e) = rw (e, three_l) sl
        st q (is_r e) = rw (e, three_r) sr
        st q (none_of z) = ap (λ (v : NodeVal). v.state) (three_other q z)
