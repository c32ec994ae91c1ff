-- A root left without pairs: an internal one is taken off, a leaf stays.
-- Assumes nothing.
use Prim.Native.Nat.{ℕ, zero, suc, ◌-◌, ◌<◌}
use native.Mathlib.Omega.{arith}
use mathlib.Core.Path.{◌≡◌, refl, ap, ◌∙◌, sym, subst}
use mathlib.Core.Bool.{Bool, true, false}
use mathlib.Core.List.{List, []}
use lib.ListN.{length}
use Rattle.model.specs.Layout.{base, header, height_word, NodeVal, Arena}
use Rattle.model.specs.Tree.{Tree, top}
use Rattle.model.specs.Nodes.{returned, Grown}
use Rattle.model.specs.Remove.{pop, pop_by}
use Rattle.node.specs.Reading.{Has}
use Rattle.internal.specs.Inner.{PopReady, Poppable, pop_head, pop_nodes}
use Rattle.shrinking.proofs.Steps.{only_child_lem, pop_ready, pop_long, pop_step}
use Rattle.standing.specs.Heads.{Rest, head_words, HoleIn, ClosedIn}
use Rattle.totals.proofs.Siblings.{pop_told}
use Rattle.fix.specs.Repairs.{Emptied, Ended}
use Rattle.fix.proofs.Holes.{hole_header, hole_long, free_few}

-- what the repair left, by its answer
pub repaired : {w : List ℕ} {g : Rest} {t : Grown} (r : Bool) → r ≡ true → Ended r w g t → ClosedIn w g t
repaired true e x = x
repaired false e x = let z : ◌≡◌ {A = ℕ} 0 1 = cc in absurd (omega arith)

pub unrepaired : {w : List ℕ} {g : Rest} {t : Grown} (r : Bool) → r ≡ false → Ended r w g t → Emptied w g t
unrepaired false e x = x
unrepaired true e x = let z : ◌≡◌ {A = ℕ} 0 1 = cc in absurd (omega arith)

abbrev pub PopCall : List ℕ → List ℕ → Type 0
PopCall w w' = (h : List ℕ) (ns : List NodeVal) (free : List ℕ) → PopReady h ns free → Arena w h ns → Arena w' (pop_head h free ns) (pop_nodes h free ns)

-- an internal root
module _ {w : List ℕ} {g : Rest} {h : ℕ} (t : Tree (suc (suc h))) (free : List ℕ) (H : HoleIn w g (top {h = suc (suc h)}) t free) (bare : t.rest ≡ []) where
  abbrev hd : List ℕ
  hd = head_words g t.no (suc h) free

  ready : PopReady hd H.nodes free
  ready = pop_ready t free H.stand bare hd refl refl refl (omega arith) (free_few top t free H)

  inner_in : Has w (λ h ns. Poppable h ns)
  inner_in = record { head = hd; nodes = H.nodes; arena = H.arena; holds = (free, ready) }

  head_is : pop_head hd free H.nodes ≡ head_words g t.first.no h (returned t.no free)
  head_is =
      let v : suc h - 1 ≡ h = omega arith in
      rw (only_child_lem t free H.stand bare hd refl refl refl, v) refl

  inner_popped : {w' : List ℕ} → PopCall w w' → ClosedIn w' g (record { whole = record { height = suc h; root = t.first }; free = returned t.no free })
  inner_popped {w'} call = record {
    nodes = pop_nodes hd free H.nodes;
    arena = subst (λ (x : List ℕ). Arena w' x (pop_nodes hd free H.nodes)) head_is (call hd H.nodes free ready H.arena);
    stand = pop_step t free H.stand bare hd refl refl refl;
    many = pop_long t free H.stand bare hd refl refl refl ∙ H.many;
    told = pop_told t free H.stand bare hd refl refl refl H.told;
  }

module _ {w : List ℕ} {g : Rest} {t : Grown} (e : Emptied w g t) where
  pub emptied_long : length w ≡ base g.size
  emptied_long = hole_long (top {h = suc e.height}) e.tree e.free e.held

  height_is : header w height_word ≡ e.height
  height_is = hole_header (top {h = suc e.height}) e.tree e.free e.held height_word (omega arith)

  pub emptied_stays : header w height_word ≡ 0 → ClosedIn w g t
  emptied_stays z = go e.height e.tree e.free e.held e.same (sym height_is ∙ z)
    where
      go : (h : ℕ) (x : Tree (suc h)) (free : List ℕ) → HoleIn w g (top {h = suc h}) x free → pop h x free ≡ t → h ≡ 0 → ClosedIn w g t
      go zero x free H q z = subst (ClosedIn w g) q H
      go (suc h) x free H q z = absurd (omega arith)

  pub emptied_in : 0 < header w height_word → Has w (λ h ns. Poppable h ns)
  emptied_in l = go e.height e.tree e.free e.held e.bare (omega (arith, height_is))
    where
      go : (h : ℕ) (x : Tree (suc h)) (free : List ℕ) → HoleIn w g (top {h = suc h}) x free → x.rest ≡ [] → 0 < h → Has w (λ h ns. Poppable h ns)
      go zero x free H b l = absurd (omega arith)
      go (suc h) x free H b l = inner_in x free H b

  pub emptied_popped : 0 < header w height_word → {w' : List ℕ} → PopCall w w' → ClosedIn w' g t
  emptied_popped l {w'} call = go e.height e.tree e.free e.held e.bare e.same (omega (arith, height_is))
    where
      go : (h : ℕ) (x : Tree (suc h)) (free : List ℕ) → HoleIn w g (top {h = suc h}) x free → x.rest ≡ [] → pop h x free ≡ t → 0 < h → ClosedIn w' g t
      go zero x free H b q l = absurd (omega arith)
      go (suc h) x free H b q l = subst (ClosedIn w' g) (sym (ap (pop_by h x free) b) ∙ q) (inner_popped x free H b call)
