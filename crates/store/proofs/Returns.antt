-- The rising chain of free nodes: what stands before and after a node that is returned, and the chain with it.
-- Assumes nothing.
use Prim.Native.Nat.{ℕ, ◌≤◌, ◌<◌}
use native.Mathlib.Nat.{not-suc-le-zero}
use native.Mathlib.Omega.{arith}
use mathlib.Core.Path.{◌≡◌, refl, ap, ◌∙◌}
use mathlib.Core.Logic.{◌≢◌, ⊎_elim}
use mathlib.Core.Bool.{Bool, true, false, cond}
use mathlib.Core.List.{List, [], ◌∷◌}
use lib.Dec.{ltb}
use lib.ListN.{length, set, length-set}
use lib.Seq.{get_or-set_same, get_or-set_other}
use borrow.Author.Tests.{ltb-true, lt-ltb, le-ltb}
use Rattle.model.specs.Lists.{All, Rises, times}
use Rattle.model.specs.Layout.{none, NodeVal, nth, blank}
use Rattle.model.specs.Nodes.{returned}
use Rattle.model.specs.Words.{free_val, first_or, chain_blocks}
use Rattle.model.proofs.Held.{Written}
use Rattle.model.proofs.Lists.{below_or, same_or, one_same, one_other, times_has}
use Rattle.store.specs.Links.{last_below, first_from, behind, return_node}

-- ---- the last below n

module _ (n : ℕ) where
  pub last_in : (p : ℕ) (l : List ℕ) → 1 ≤ times (last_below n p l) (p ∷ l)
  last_in p [] = omega (arith, one_same p p refl)
  last_in p (x ∷ l) = go (ltb x n) (last_in x l)
    where
      go : (b : Bool) → 1 ≤ times (last_below n x l) (x ∷ l) → 1 ≤ times (cond b (last_below n x l) p) (p ∷ x ∷ l)
      go true ih = omega arith
      go false ih = omega (arith, one_same p p refl)

  pub last_low : (p : ℕ) (l : List ℕ) → p < n → last_below n p l < n
  last_low p [] o = o
  last_low p (x ∷ l) o = go (ltb x n) refl (last_low x l)
    where
      go : (b : Bool) → ltb x n ≡ b → (x < n → last_below n x l < n) → cond b (last_below n x l) p < n
      go true e ih = ih (ltb-true x n e)
      go false e ih = o

  last_from : (p : ℕ) (l : List ℕ) → Rises (p ∷ l) → p ≤ last_below n p l
  last_from p [] r = omega arith
  last_from p (x ∷ l) r = go (ltb x n) (last_from x l r.1)
    where
      go : (b : Bool) → x ≤ last_below n x l → p ≤ cond b (last_below n x l) p
      go true ih = let u : p < x = r.0.0 in omega arith
      go false ih = omega arith

  -- its link leads to the first that is not below
  pub last_next : (ns : List NodeVal) (p : ℕ) (l : List ℕ) → All (Written ns) (chain_blocks (p ∷ l)) → nth ns (last_below n p l) ≡ free_val (first_from n l)
  last_next ns p [] c = c.0
  last_next ns p (x ∷ l) c = go (ltb x n) (last_next ns x l c.1)
    where
      go : (b : Bool) → nth ns (last_below n x l) ≡ free_val (first_from n l) → nth ns (cond b (last_below n x l) p) ≡ free_val (cond b (first_from n l) x)
      go true ih = ih
      go false ih = c.0

  -- a free one below n, with none between, is the last below
  pub last_is : (d p : ℕ) (l : List ℕ) → Rises l → 1 ≤ times d l → d < n → ((q : ℕ) → d < q → q < n → 1 ≤ times q l → ⊥) → last_below n p l ≡ d
  last_is d p [] r i o z = absurd (not-suc-le-zero i)
  last_is d p (x ∷ l) r i o z =
      ⊎_elim
      (λ (e : x ≡ d).
      let u : ltb x n ≡ true = lt-ltb x n (omega arith) in
      let f : (q : ℕ) → x < q → q < n → 1 ≤ times q l → ⊥ = λ q a b k. z q (omega arith) b (omega arith) in
      rw u (stop l r.0 f ∙ e))
      (λ (ne : x ≡ d → ⊥).
      let j : 1 ≤ times d l = omega (arith, one_other x d ne) in
      let v : x < d = times_has (λ j. x < j) l r.0 d j in
      let u : ltb x n ≡ true = lt-ltb x n (omega arith) in
      let f : (q : ℕ) → d < q → q < n → 1 ≤ times q l → ⊥ = λ q a b k. z q a b (omega arith) in
      rw u (last_is d x l r.1 j o f))
      (same_or x d)
    where
      stop : (m : List ℕ) → All (λ (j : ℕ). x < j) m → ((q : ℕ) → x < q → q < n → 1 ≤ times q m → ⊥) → last_below n x m ≡ x
      stop [] a z = refl
      stop (y ∷ m) a z = ⊎_elim (λ u. absurd (z y a.0 u (omega (arith, one_same y y refl)))) (λ u. rw (le-ltb y n u) refl) (below_or y n)

-- ---- the chain with n in it

chain_other : (ns ns' : List NodeVal) (l : List ℕ) → ((q : ℕ) → 1 ≤ times q l → nth ns' q ≡ nth ns q) → All (Written ns) (chain_blocks l) → All (Written ns') (chain_blocks l)
chain_other ns ns' [] f c = tt
chain_other ns ns' (x ∷ l) f c = (f x (omega (arith, one_same x x refl)) ∙ c.0, chain_other ns ns' l (λ q h. f q (omega arith)) c.1)

module _ (ns : List NodeVal) (n : ℕ) (o : n < length ns) where
  one_at : (v : NodeVal) → nth (set ns n v) n ≡ v
  one_at v = get_or-set_same ns n v blank o

  one_out : (v : NodeVal) (q : ℕ) → q ≢ n → nth (set ns n v) q ≡ nth ns q
  one_out v q d = get_or-set_other ns n q v blank d

  module _ (v u : NodeVal) (p : ℕ) (l : p < n) where
    two_at : nth (set (set ns n v) p u) p ≡ u
    two_at = get_or-set_same (set ns n v) p u blank (rw length-set (omega arith))

    two_n : nth (set (set ns n v) p u) n ≡ v
    two_n = get_or-set_other (set ns n v) p n u blank (λ e. omega arith) ∙ one_at v

    two_out : (q : ℕ) → q ≢ n → q ≢ p → nth (set (set ns n v) p u) q ≡ nth ns q
    two_out q d e = get_or-set_other (set ns n v) p q u blank e ∙ one_out v q d

  behind_chain : (p : ℕ) (l : List ℕ) → p < n → Rises (p ∷ l) → times n l ≡ 0 → All (Written ns) (chain_blocks (p ∷ l)) → All (Written (behind ns n p l)) (chain_blocks (p ∷ returned n l))
  behind_chain p [] u r z c = (two_at _ _ p u, (two_n _ _ p u, tt))
  behind_chain p (x ∷ l) u r z c = go (ltb x n) refl (behind_chain x l)
    where
      go : (b : Bool) → ltb x n ≡ b
          → (x < n → Rises (x ∷ l) → times n l ≡ 0 → All (Written ns) (chain_blocks (x ∷ l)) → All (Written (behind ns n x l)) (chain_blocks (x ∷ returned n l)))
          → All (Written (set (set ns n (free_val (cond b (first_from n l) x))) (cond b (last_below n x l) p) (free_val n))) (chain_blocks (p ∷ cond b (x ∷ returned n l) (n ∷ x ∷ l)))
      go true e ih =
          let v : x < n = ltb-true x n e in
          let f = last_from n x l r.1 in
          let g : p < x = r.0.0 in
          (two_out _ _ (last_below n x l) (last_low n x l v) p (λ a. omega arith) (λ a. omega arith) ∙ c.0, ih v r.1 (omega arith) c.1)
      go false e ih = (
        two_at _ _ p u,
        (two_n _ _ p u, chain_other ns (set (set ns n (free_val x)) p (free_val n)) (x ∷ l) (λ q h. two_out _ _ p u q (λ a. omega (arith, z, ap (λ (t : ℕ). times t (x ∷ l)) a)) (λ a. let b : p < q = times_has (λ j. p < j) (x ∷ l) r.0 q h in omega arith)) c.1),
      )

  -- ---- a node returned

  pub return_chain : (free : List ℕ) → Rises free → times n free ≡ 0 → All (Written ns) (chain_blocks free) → All (Written (return_node ns free n)) (chain_blocks (returned n free))
  unfolding return_node
  return_chain [] r z c = (one_at _, tt)
  return_chain (x ∷ free) r z c = go (ltb x n) refl
    where
      go : (b : Bool) → ltb x n ≡ b → All (Written (cond b (behind ns n x free) (set ns n (free_val x)))) (chain_blocks (cond b (x ∷ returned n free) (n ∷ x ∷ free)))
      go true e = behind_chain x free (ltb-true x n e) r (omega arith) c
      go false e = (one_at _, chain_other ns (set ns n (free_val x)) (x ∷ free) (λ q h. one_out _ q (λ a. omega (arith, z, ap (λ (t : ℕ). times t (x ∷ free)) a))) c)

  -- it alone is changed, or one free node before it too
  pub return_cases : (P : List NodeVal → Type 0) (free : List ℕ) → ((k : ℕ) → P (set ns n (free_val k))) → ((k q : ℕ) → 1 ≤ times q free → q < n → P (set (set ns n (free_val k)) q (free_val n))) → P (return_node ns free n)
  unfolding return_node
  return_cases P [] f g = f none
  return_cases P (x ∷ free) f g = go (ltb x n) refl
    where
      go : (b : Bool) → ltb x n ≡ b → P (cond b (behind ns n x free) (set ns n (free_val x)))
      go true e = g (first_from n free) (last_below n x free) (last_in n x free) (last_low n x free (ltb-true x n e))
      go false e = f x

  pub return_long : (free : List ℕ) → length (return_node ns free n) ≡ length ns
  return_long free = return_cases (λ s. length s ≡ length ns) free (λ k. length-set ns n (free_val k)) (λ k q h l. length-set (set ns n (free_val k)) q (free_val n) ∙ length-set ns n (free_val k))

  -- ---- as it is written: none before it, or one

  pub before_none : (free : List ℕ) → n < none → last_below n none free ≡ none → (return_node ns free n ≡ set ns n (free_val (first_or free))) × (first_or (returned n free) ≡ n)
  unfolding return_node
  before_none [] s e = (refl, refl)
  before_none (x ∷ free) s e = go (ltb x n) refl e
    where
      go : (b : Bool) → ltb x n ≡ b → cond b (last_below n x free) none ≡ none → (cond b (behind ns n x free) (set ns n (free_val x)) ≡ set ns n (free_val x)) × (first_or (cond b (x ∷ returned n free) (n ∷ x ∷ free)) ≡ n)
      go true d e = absurd (omega (arith, last_low n x free (ltb-true x n d)))
      go false d e = (refl, refl)

  pub before_some : (p : ℕ) (free : List ℕ) → p ≡ last_below n none free → p ≢ none → All (Written ns) (chain_blocks free)
      → (return_node ns free n ≡ set (set ns n (free_val (nth ns p).parent)) p (free_val n)) × (first_or (returned n free) ≡ first_or free) × (p < n) × (nth ns p ≡ free_val (nth ns p).parent)
  unfolding return_node
  before_some p [] e d c = absurd (d e)
  before_some p (x ∷ free) e d c = go (ltb x n) refl e
    where
      go : (b : Bool) → ltb x n ≡ b → p ≡ cond b (last_below n x free) none
          → (cond b (behind ns n x free) (set ns n (free_val x)) ≡ set (set ns n (free_val (nth ns p).parent)) p (free_val n)) × (first_or (cond b (x ∷ returned n free) (n ∷ x ∷ free)) ≡ x) × (p < n) × (nth ns p ≡ free_val (nth ns p).parent)
      go true a e =
          let k : nth ns p ≡ free_val (first_from n free) = rw e (last_next n ns x free c) in
          (rw (k, e) refl, refl, rw e (last_low n x free (ltb-true x n a)), rw k refl)
      go false a e = absurd (d e)
