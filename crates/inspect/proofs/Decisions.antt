-- What a test that decides tells, and tests made of others.
-- Assumes nothing.
use Rattle.std.proofs.Common.{ℕ, ◌≤◌, ◌<◌, arith, ◌≡◌, refl, subst, Bool, true, false, eqb, ltb, eqb-true, ltb-true, ltb-false}
use borrow.Author.Tests.{eqb-false}
use Rattle.inspect.specs.Tests.{Decides}

-- the test `!b` failed, or held
pub decided : (b : Bool) {P : Type 0} → Decides b P → b ≡ true → P
decided b {P} d e = subst (λ (t : Bool). Decides t P) e d

pub refuted : (b : Bool) {P : Type 0} → Decides b P → b ≡ false → P → ⊥
refuted b {P} d e = subst (λ (t : Bool). Decides t P) e d

-- the test `b` held, or failed
pub held : (b : Bool) {P : Type 0} → Decides b P → b ≡ true → P
held b {P} d e = subst (λ (t : Bool). Decides t P) e d

pub failed : (b : Bool) {P : Type 0} → Decides b P → b ≡ false → P → ⊥
failed b {P} d e = subst (λ (t : Bool). Decides t P) e d

-- a test of one thing is a test of another that is as true
pub decides_as : (b : Bool) {P Q : Type 0} → (P → Q) → (Q → P) → Decides b P → Decides b Q
decides_as true f g d = f d
decides_as false f g d = λ q. d (g q)

pub equal : (x y : ℕ) → Decides (eqb x y) (x ≡ y)
equal x y = go (eqb x y) refl
  where
    go : (t : Bool) → eqb x y ≡ t → Decides t (x ≡ y)
    go true e = eqb-true x y e
    go false e = eqb-false x y e

pub less : (x y : ℕ) → Decides (ltb x y) (x < y)
less x y = go (ltb x y) refl
  where
    go : (t : Bool) → ltb x y ≡ t → Decides t (x < y)
    go true e = ltb-true x y e
    go false e = λ l. let m = ltb-false x y e in omega arith

-- one of two numbers is below the other, or not
pub apart : (x y : ℕ) {P : Type 0} → (x < y → P) → (y ≤ x → P) → P
apart x y {P} f g = go (ltb x y) refl
  where
    go : (t : Bool) → ltb x y ≡ t → P
    go true e = f (ltb-true x y e)
    go false e = g (ltb-false x y e)
