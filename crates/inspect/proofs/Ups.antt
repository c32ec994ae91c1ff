-- The count of ascents: all of them exactly when the numbers rise at each step, and none where zeros follow.
-- Assumes nothing.
use Rattle.std.proofs.Common.{ℕ, zero, suc, ◌+◌, ◌≤◌, ◌<◌, eq-or-lt_of_le, le_of_suc-le-suc, add-one, arith, ◌≡◌, refl, Bool, true, false, ⊎_elim, ltb, ltb-true, ltb-false}
use Rattle.inspect.specs.Tests.{rise, ups}

-- what a test says of a rise
record Rose (x y r : ℕ) : Type 0 where
  few : r ≤ 1
  is : x < y → r ≡ 1
  not : y ≤ x → r ≡ 0

rose : (x y : ℕ) → Rose x y (rise x y)
rose x y = go (ltb x y) refl
  where
    go : (t : Bool) → ltb x y ≡ t → Rose x y (elim t [ true ↦ 1 | false ↦ 0 ])
    go true e = record { few = omega arith; is = λ l. refl; not = λ l. absurd (omega (arith, ltb-true x y e)) }
    go false e = record { few = omega arith; is = λ l. absurd (omega (arith, ltb-false x y e)); not = λ l. refl }

pub rise_few : (x y : ℕ) → rise x y ≤ 1
rise_few x y = (rose x y).few

pub rise_is : (x y : ℕ) → x < y → rise x y ≡ 1
rise_is x y = (rose x y).is

pub rise_not : (x y : ℕ) → y ≤ x → rise x y ≡ 0
rise_not x y = (rose x y).not

pub ups_none : (k : ℕ → ℕ) → ups k 0 ≡ 0
unfolding ups
ups_none k = refl

pub ups_more : (k : ℕ → ℕ) (m : ℕ) → ups k (m + 1) ≡ ups k m + rise (k m) (k (m + 1))
unfolding ups
ups_more k m = rw add-one refl

pub ups_few : (k : ℕ → ℕ) (m : ℕ) → ups k m ≤ m
unfolding ups
ups_few k zero = omega arith
ups_few k (suc m) = omega (arith, ups_few k m, rise_few (k m) (k (suc m)))

-- nothing is below 0
pub ups_flat : (k : ℕ → ℕ) (m t : ℕ) → m ≤ t → ((j : ℕ) → m < j → j ≤ t → k j ≡ 0) → ups k t ≡ ups k m
unfolding ups
ups_flat k m zero l z = let e : m ≡ 0 = omega arith in rw e refl
ups_flat k m (suc t) l z = ⊎_elim
    (λ e. rw e refl)
    (λ u.
    let a = ups_flat k m t (le_of_suc-le-suc u) (λ j x y. z j x (omega arith)) in
    let b = rise_not (k t) (k (suc t)) (omega (arith, z (suc t) u (omega arith))) in
    omega (arith, a, b))
    (eq-or-lt_of_le l)
