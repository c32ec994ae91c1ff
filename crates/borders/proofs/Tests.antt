-- Tests that compute, each with what it shows.
-- Assumes nothing.
use Prim.Native.Nat.{ℕ, zero, suc, ◌≤◌, ◌<◌}
use native.Mathlib.Nat.{not-suc-le-zero, le_of_suc-le-suc, eq-or-lt_of_le}
use mathlib.Core.Logic.{⊎_elim}
use mathlib.Core.Path.{◌≡◌, refl, sym, ap₂, subst}
use mathlib.Core.Bool.{Bool, true, false, ◌&&◌}
use mathlib.Core.List.{List, [], ◌∷◌}
use lib.Dec.{T, leb, eqb, leb→le, eqb→eq}
use Rattle.model.specs.Lists.{All}

pub record Test (P : Type 0) : Type 0 where
  pub passed : Bool
  pub shows : T passed → P

pub split : (a b : Bool) → T (a && b) → T a × T b
split true b t = (tt, t)
split false b t = absurd t

module _ {P Q : Type 0} where
  abbrev pub both : Test P → Test Q → Test (P × Q)
  both p q = record { passed = p.passed && q.passed; shows = λ t. let k = split p.passed q.passed t in (p.shows k.0, q.shows k.1) }

  abbrev pub so : (P → Q) → Test P → Test Q
  so f p = record { passed = p.passed; shows = λ t. f (p.shows t) }

abbrev pub always : {P : Type 0} → P → Test P
always x = record { passed = true; shows = λ t. x }

abbrev pub never : {P : Type 0} → Test P
never = record { passed = false; shows = λ t. absurd t }

abbrev pub le : (m n : ℕ) → Test (m ≤ n)
le m n = record { passed = leb m n; shows = leb→le m n }

abbrev pub same : (m n : ℕ) → Test (m ≡ n)
same m n = record { passed = eqb m n; shows = eqb→eq m n }

abbrev pub same_words : (a b : List ℕ) → Test (a ≡ b)
same_words [] [] = always refl
same_words [] (y ∷ b) = never
same_words (x ∷ a) [] = never
same_words (x ∷ a) (y ∷ b) = so (λ k. ap₂ ◌∷◌ k.0 k.1) (both (same x y) (same_words a b))

module _ {A : Type 0} (P : A → Type 0) (f : (x : A) → Test (P x)) where
  abbrev pub each : (l : List A) → Test (All P l)
  each [] = always tt
  each (x ∷ l) = both (f x) (each l)

module _ (P : ℕ → Type 0) (f : (i : ℕ) → Test (P i)) where
  abbrev pub each_below : (n : ℕ) → Test ((i : ℕ) → i < n → P i)
  each_below zero = always (λ i l. absurd (not-suc-le-zero l))
  each_below (suc n) = so (λ k i l. ⊎_elim (λ e. subst P (sym e) k.0) (λ u. k.1 i u) (eq-or-lt_of_le (le_of_suc-le-suc l))) (both (f n) (each_below n))
