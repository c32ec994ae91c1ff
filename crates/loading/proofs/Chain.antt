-- The chain of free nodes is told by the tree alone: it is the numbers that are not in use, in order.
-- Assumes nothing.
use Prim.Native.Nat.{ℕ, ◌≤◌, ◌<◌}
use native.Mathlib.Omega.{arith}
use mathlib.Core.Path.{◌≡◌, refl, ap, ◌∙◌, sym}
use mathlib.Core.Logic.{⊎_elim}
use mathlib.Core.Bool.{cond}
use mathlib.Core.List.{List, [], ◌∷◌}
use lib.Dec.{ltb}
use Rattle.model.specs.Lists.{AllAbove, Rises, one, times}
use Rattle.model.specs.Tree.{has_whole}
use Rattle.model.specs.State.{State}
use Rattle.model.specs.Sound.{Sound}
use Rattle.model.proofs.Lists.{one_same, one_other, same_or, times_has}

none_below : (n : ℕ) (l : List ℕ) → AllAbove n l → times n l ≡ 0
none_below n [] a = refl
none_below n (x ∷ l) a = omega (arith, one_other x n (λ e. let u : n < x = a.0 in omega arith), none_below n l a.1)

-- two rising lists in which every number is as often are equal
pub rises_ext : (a b : List ℕ) → Rises a → Rises b → ((m : ℕ) → times m a ≡ times m b) → a ≡ b
rises_ext [] [] ra rb h = refl
rises_ext [] (y ∷ b) ra rb h = absurd (omega (arith, h y, one_same y y refl))
rises_ext (x ∷ a) [] ra rb h = absurd (omega (arith, h x, one_same x x refl))
rises_ext (x ∷ a) (y ∷ b) ra rb h = go (rises_ext a b ra.1 rb.1)
  where
    low : (x y : ℕ) (a b : List ℕ) → AllAbove y b → times x (x ∷ a) ≡ times x (y ∷ b) → y ≤ x
    low x y a b r e = ⊎_elim
        (λ (i : y ≡ x). omega arith)
        (λ (d : y ≡ x → ⊥). let u : 1 ≤ times x b = omega (arith, one_same x x refl, one_other y x d) in let v = times_has (λ m. y < m) b r x u in omega arith)
        (same_or y x)

    same : x ≡ y
    same = omega (arith, low x y a b rb.0 (h x), low y x b a ra.0 (sym (h y)))

    go : (((m : ℕ) → times m a ≡ times m b) → a ≡ b) → (x ∷ a) ≡ (y ∷ b)
    go ih = let t : (m : ℕ) → times m a ≡ times m b = λ m. omega (arith, h m, ap (λ i. one i m) same) in ap (λ i. i ∷ a) same ∙ ap (λ (l : List ℕ). y ∷ l) (ih t)

-- of two sound states with one size and one tree, the chains are equal
pub one_chain : (s t : State) → Sound s → Sound t → s.size ≡ t.size → s.whole ≡ t.whole → s.free ≡ t.free
one_chain s t os ot es ew =
    rises_ext s.free t.free os.chain_rises ot.chain_rises (λ m. omega (arith, os.once m ∙ (ap (λ i. cond (ltb m i) 1 0) es ∙ sym (ot.once m)), ap (has_whole m) ew))
