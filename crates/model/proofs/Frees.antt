-- The rising chain of free nodes: a node taken, a node returned to its place.
-- Assumes nothing.
use Prim.Native.Nat.{ℕ, zero, suc, ◌+◌, ◌≤◌, ◌<◌}
use native.Mathlib.Omega.{arith}
use mathlib.Core.Path.{◌≡◌, refl, ap}
use mathlib.Core.Bool.{Bool, true, false, cond}
use mathlib.Core.List.{List, [], ◌∷◌}
use lib.Dec.{ltb}
use lib.ListN.{length}
use borrow.Author.Tests.{ltb-true, ltb-false}
use Rattle.model.specs.Lists.{All, AllAbove, Rises, one, times, count}
use Rattle.model.specs.Layout.{none}
use Rattle.model.specs.Nodes.{untaken, returned}
use Rattle.model.specs.Words.{first_or}
use Rattle.model.proofs.Lists.{all_map, one_same, times_has}

-- ---- numbers that do not fall: what insertion keeps whatever is inserted, and what strictly rising numbers are where none stands twice

abbrev pub AllFrom : ℕ → List ℕ → Type 0
AllFrom k = All (λ (j : ℕ). k ≤ j)

abbrev pub Sorted : List ℕ → Type 0
Sorted [] = Unit {0}
Sorted (x ∷ l) = AllFrom x l × Sorted l

pub rises_sorted : (l : List ℕ) → Rises l → Sorted l
rises_sorted [] r = tt
rises_sorted (x ∷ l) r = (all_map _ _ (λ (j : ℕ) (h : x < j). omega arith) l r.0, rises_sorted l r.1)

-- all of l have what those have that stand in it
pub all_times : (P : ℕ → Type 0) (l : List ℕ) → ((m : ℕ) → 1 ≤ times m l → P m) → All P l
all_times P [] f = tt
all_times P (x ∷ l) f = (f x (omega (arith, one_same x x refl)), all_times P l (λ m h. f m (omega arith)))

pub sorted_rises : (l : List ℕ) → ((m : ℕ) → times m l ≤ 1) → Sorted l → Rises l
sorted_rises [] z s = tt
sorted_rises (x ∷ l) z s = (
  all_times (λ j. x < j) l (λ m h.
      let le : x ≤ m = times_has (λ j. x ≤ j) l s.0 m h in
      let ne : x ≡ m → ⊥ = λ e. omega (arith, z m, one_same x m e) in
      lt x m le ne),
  sorted_rises l (λ m. omega (arith, z m)) s.1,
)
  where
    lt : (x m : ℕ) → x ≤ m → (x ≡ m → ⊥) → x < m
    lt x m le ne = omega arith

-- where no number counts twice
pub once_rises : (size : ℕ) (has : ℕ → ℕ) (l : List ℕ) → ((m : ℕ) → has m + times m l ≡ cond (ltb m size) 1 0) → Sorted l → Rises l
once_rises size has l z = sorted_rises l (λ m. omega (arith, z m, most (ltb m size)))
  where
    most : (b : Bool) → cond b 1 0 ≤ 1
    most true = omega arith
    most false = omega arith

-- ---- taken

pub untaken_sorted : (free : List ℕ) → Sorted free → Sorted (untaken free)
untaken_sorted [] s = tt
untaken_sorted (x ∷ free) s = s.1

-- ---- returned

module _ (n : ℕ) where
  pub returned_length : (free : List ℕ) → length (returned n free) ≡ suc (length free)
  returned_length [] = refl
  returned_length (x ∷ free) = go (ltb x n) (returned_length free)
    where
      go : (b : Bool) → length (returned n free) ≡ suc (length free) → length (cond b (x ∷ returned n free) (n ∷ x ∷ free)) ≡ suc (suc (length free))
      go false ih = refl
      go true ih = ap suc ih

  pub returned_times : (m : ℕ) (free : List ℕ) → times m (returned n free) ≡ one n m + times m free
  returned_times m [] = refl
  returned_times m (x ∷ free) = go (ltb x n) (returned_times m free)
    where
      go : (b : Bool) → times m (returned n free) ≡ one n m + times m free → times m (cond b (x ∷ returned n free) (n ∷ x ∷ free)) ≡ one n m + (one x m + times m free)
      go false ih = refl
      go true ih = omega arith

  returned_all_lem : (P : ℕ → Type 0) (free : List ℕ) → P n → All P free → All P (returned n free)
  returned_all_lem P [] p a = (p, tt)
  returned_all_lem P (x ∷ free) p a = go (ltb x n) (returned_all_lem P free p a.1)
    where
      go : (b : Bool) → All P (returned n free) → All P (cond b (x ∷ returned n free) (n ∷ x ∷ free))
      go false ih = (p, a)
      go true ih = (a.0, ih)

  pub returned_sorted : (free : List ℕ) → Sorted free → Sorted (returned n free)
  returned_sorted [] s = (tt, tt)
  returned_sorted (x ∷ free) s = go (ltb x n) refl (returned_sorted free s.1)
    where
      go : (b : Bool) → ltb x n ≡ b → Sorted (returned n free) → Sorted (cond b (x ∷ returned n free) (n ∷ x ∷ free))
      go false e ih = let l : n ≤ x = ltb-false x n e in ((omega arith, all_map _ _ (λ (j : ℕ) (h : x ≤ j). omega arith) free s.0), s)
      go true e ih = (returned_all_lem (λ j. x ≤ j) free (let l : x < n = ltb-true x n e in omega arith) s.0, ih)

  -- strictly, where it did not stand there
  pub returned_rises : (free : List ℕ) → ((m : ℕ) → one n m + times m free ≤ 1) → Rises free → Rises (returned n free)
  returned_rises free z r = sorted_rises (returned n free) (λ m. omega (arith, z m, returned_times m free)) (returned_sorted free (rises_sorted free r))

-- ---- read from the first on

pub above_first : (x : ℕ) (l : List ℕ) → x < none → AllAbove x l → x < first_or l
above_first x [] o a = o
above_first x (y ∷ l) o a = a.0

pub count_above : (k i n : ℕ) → k < i → AllAbove k (count i n)
count_above k i zero o = tt
count_above k i (suc n) o = (o, count_above k (suc i) n (omega arith))

pub count_rises : (i n : ℕ) → Rises (count i n)
count_rises i zero = tt
count_rises i (suc n) = (count_above i (suc i) n (omega arith), count_rises (suc i) n)
