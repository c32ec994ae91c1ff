-- Keys that rise from the last one passed: in parts, as the model says it, and beside the mark.
-- Assumes nothing.
use Rattle.std.proofs.Common.{ℕ, ◌≤◌, ◌<◌, arith, ◌≡◌, refl, sym, subst, List, [], ◌∷◌, ◌++◌, Option, None, Some}
use Rattle.model.specs.Lists as lists
use Rattle.model.specs.Lists.{All, AllAbove}
use Rattle.model.proofs.Lists.{all_map}
use Rattle.model.proofs.Keys.{Marks}
use Rattle.inspect.specs.Tests.{Marked}
use Rattle.checker.specs.Walks.{Rises, last_of}

-- ---- in parts

pub rises_left : (l : Option ℕ) (xs ys : List ℕ) → Rises l (xs ++ ys) → Rises l xs
unfolding Rises
rises_left l [] ys r = tt
rises_left l (x ∷ xs) ys r = (r.0, rises_left (Some x) xs ys r.1)

pub rises_right : (l : Option ℕ) (xs ys : List ℕ) → Rises l (xs ++ ys) → Rises (last_of l xs) ys
unfolding Rises last_of
rises_right l [] ys r = r
rises_right l (x ∷ xs) ys r = rises_right (Some x) xs ys r.1

pub rises_both : (l : Option ℕ) (xs ys : List ℕ) → Rises l xs → Rises (last_of l xs) ys → Rises l (xs ++ ys)
unfolding Rises last_of
rises_both l [] ys r s = s
rises_both l (x ∷ xs) ys r s = (r.0, rises_both (Some x) xs ys r.1 s)

pub last_append : (l : Option ℕ) (xs ys : List ℕ) → last_of l (xs ++ ys) ≡ last_of (last_of l xs) ys
unfolding last_of
last_append l [] ys = refl
last_append l (x ∷ xs) ys = last_append (Some x) xs ys

-- ---- as the model says it

rises_above : (x : ℕ) (ks : List ℕ) → Rises (Some x) ks → AllAbove x ks
unfolding Rises
rises_above x [] r = tt
rises_above x (k ∷ ks) r = (r.0, all_map (λ j. k < j) (λ j. x < j) (λ j u. omega (arith, r.0)) ks (rises_above k ks r.1))

pub rises_rising : (l : Option ℕ) (ks : List ℕ) → Rises l ks → lists.Rises ks
unfolding Rises
rises_rising l [] r = tt
rises_rising l (k ∷ ks) r = (rises_above k ks r.1, rises_rising (Some k) ks r.1)

above_rises : (x : ℕ) (ks : List ℕ) → AllAbove x ks → lists.Rises ks → Rises (Some x) ks
unfolding Rises
above_rises x [] a r = tt
above_rises x (k ∷ ks) a r = (a.0, above_rises k ks r.0 r.1)

pub rising_rises : (ks : List ℕ) → lists.Rises ks → Rises None ks
unfolding Rises
rising_rises [] r = tt
rising_rises (k ∷ ks) r = (tt, above_rises k ks r.0 r.1)

-- ---- beside the mark: the last of all keys stands for all

module _ (mark : ℕ) where
  last_under : (x : ℕ) (ks : List ℕ) → x ≤ mark → All (λ (k : ℕ). k ≤ mark) ks → (z : ℕ) × (last_of (Some x) ks ≡ Some z) × (z ≤ mark)
  unfolding last_of
  last_under x [] u a = (x, refl, u)
  last_under x (k ∷ ks) u a = last_under k ks a.0 a.1

  all_under : (seen x : ℕ) (ks : List ℕ) → Rises (Some x) ks → Marked seen mark (last_of (Some x) ks) → (seen ≡ 1) × (x ≤ mark) × All (λ (k : ℕ). k ≤ mark) ks
  unfolding Rises last_of
  all_under seen x [] r m = (m.0, m.1, tt)
  all_under seen x (k ∷ ks) r m = let u = all_under seen k ks r.1 m in (u.0, omega (arith, r.0, u.1), (u.1, u.2))

pub marks_of : (seen mark : ℕ) (ks : List ℕ) → Rises None ks → Marked seen mark (last_of None ks) → Marks seen mark ks
unfolding Rises last_of
marks_of seen mark [] r m = record { flag = m.0; any = λ l. absurd (omega arith); under = tt; unseen = m.1 }
marks_of seen mark (k ∷ ks) r m =
    let u = all_under mark seen k ks r.1 m in
    record { flag = omega (arith, u.0); any = λ l. u.0; under = (u.1, u.2); unseen = λ e. absurd (omega (arith, u.0)) }

pub of_marks : (seen mark : ℕ) (ks : List ℕ) → Marks seen mark ks → Marked seen mark (last_of None ks)
unfolding last_of
of_marks seen mark [] m = (m.flag, m.unseen)
of_marks seen mark (k ∷ ks) m =
    let z = last_under mark k ks m.under.0 m.under.1 in
    subst (Marked seen mark) (sym z.1) (m.any (omega arith), z.2)
