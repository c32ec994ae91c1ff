-- What holds of every element of a list holds of every element of its parts.
-- Assumes nothing.
use Prim.Native.Nat.{ℕ, zero, suc, ◌<◌}
use mathlib.Core.List.{List, [], ◌∷◌, ◌++◌}
use native.Mathlib.Nat.{not-suc-le-zero}
use native.Mathlib.Omega.{arith}
use lib.ListN.{length, take, drop, get_or}
use Rattle.model.specs.Lists.{All, insert_at}
use Rattle.slices.specs.Words.{remove_at}

module _ {A : Type 0} (P : A → Type 0) where
  pub all_take : (n : ℕ) (l : List A) → All P l → All P (take n l)
  all_take zero l p = tt
  all_take (suc n) [] p = tt
  all_take (suc n) (x ∷ l) p = (p.0, all_take n l p.1)

  pub all_drop : (n : ℕ) (l : List A) → All P l → All P (drop n l)
  all_drop zero l p = p
  all_drop (suc n) [] p = tt
  all_drop (suc n) (x ∷ l) p = all_drop n l p.1

  pub all_append : (l m : List A) → All P l → All P m → All P (l ++ m)
  all_append [] m p q = q
  all_append (x ∷ l) m p q = (p.0, all_append l m p.1 q)

  pub all_insert : (l : List A) (i : ℕ) (x : A) → P x → All P l → All P (insert_at l i x)
  unfolding insert_at
  all_insert l i x q p = all_append (take i l) (x ∷ drop i l) (all_take i l p) (q, all_drop i l p)

  pub all_remove : (l : List A) (i : ℕ) → All P l → All P (remove_at l i)
  unfolding remove_at
  all_remove l i p = all_append (take i l) (drop 1 (drop i l)) (all_take i l p) (all_drop 1 (drop i l) (all_drop i l p))

  pub all_at : (l : List A) (i : ℕ) (d : A) → i < length l → All P l → P (get_or l i d)
  all_at [] i d h p = absurd (not-suc-le-zero h)
  all_at (x ∷ l) zero d h p = p.0
  all_at (x ∷ l) (suc i) d h p = all_at l i d (omega arith) p.1
