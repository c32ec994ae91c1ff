-- A run in chunks of two words: each is a pair, and the run rises where the chunks' first words do.
-- Assumes nothing.
use Rattle.std.proofs.Common.{ℕ, zero, suc, ◌+◌, ◌≤◌, ◌<◌, ◌≡◌, ap, sym, Bool, true, false, List, [], ◌∷◌, length, get_or, arith, refl}
use Rattle.std.specs.List.{IsAllAdjacentAnswer}
use Rattle.std.specs.Simd.{first_chunks}
use lib.Dec.{ltb}
use borrow.Author.Tests.{ltb-true, ltb-false}
use Rattle.model.specs.Tree.{Pair}
use Rattle.model.specs.Map.{Rising}
use Rattle.model.specs.Load.{pairs_of}
use Rattle.model.proofs.Rising.{above_le}
use Rattle.inspect.specs.Tests.{Decides}
use Rattle.appending.proofs.Runs.{pair_at}

chunks_long : (k : ℕ) (run : List ℕ) → length (first_chunks 2 k run) ≡ k
chunks_long zero run = refl
chunks_long (suc k) [] = ap suc (chunks_long k [])
chunks_long (suc k) (x ∷ []) = ap suc (chunks_long k [])
chunks_long (suc k) (x ∷ y ∷ run) = ap suc (chunks_long k run)

-- a chunk is the pair at its place
pub chunk_pair : (k j : ℕ) (run d : List ℕ) → j < k → k + k ≤ length run → let x = get_or (first_chunks 2 k run) j d in ◌≡◌ {A = Pair} (record { key = get_or x 0 0; val = get_or x 1 0 }) (pair_at run (j + j))
chunk_pair zero j run d l m = absurd (omega arith)
chunk_pair (suc k) j [] d l m = absurd (omega arith)
chunk_pair (suc k) j (x ∷ []) d l m = absurd (omega arith)
chunk_pair (suc k) zero (x ∷ y ∷ run) d l m = refl
chunk_pair (suc k) (suc j) (x ∷ y ∷ run) d l m =
    let a : suc j + suc j ≡ suc (suc (j + j)) = omega arith in
    let b : suc (suc (j + j)) + 1 ≡ suc (suc (j + j + 1)) = omega arith in
    rw (a, b) (chunk_pair k j run d (omega arith) (omega arith))

-- ---- whether it rises

climbs : (half : ℕ) (run : List ℕ) → length run ≡ half + half → ((j : ℕ) → j + 1 < half → get_or run (j + j) 0 < get_or run (j + j + 2) 0) → Rising (pairs_of run)
climbs zero [] e f = tt
climbs zero (x ∷ run) e f = absurd (omega arith)
climbs (suc h) [] e f = tt
climbs (suc h) (x ∷ []) e f = absurd (omega arith)
climbs (suc h) (x ∷ y ∷ []) e f = (tt, tt)
climbs (suc h) (x ∷ y ∷ z ∷ []) e f = absurd (omega arith)
climbs (suc h) (x ∷ y ∷ z ∷ u ∷ run) e f =
    let lt : x < z = f 0 (omega arith) in
    let r = climbs h (z ∷ u ∷ run) (omega arith) (λ j l. let a : suc j + suc j + 2 ≡ suc (suc (j + j + 2)) = omega arith in let b : suc j + suc j ≡ suc (suc (j + j)) = omega arith in rw (a, b) at (f (suc j) (omega arith))) in
    ((lt, above_le x z lt (pairs_of run) r.0), r)

falls : (j : ℕ) (run : List ℕ) → j + j + 4 ≤ length run → get_or run (j + j + 2) 0 ≤ get_or run (j + j) 0 → Rising (pairs_of run) → ⊥
falls j [] m l r = absurd (omega arith)
falls j (x ∷ []) m l r = absurd (omega arith)
falls j (x ∷ y ∷ []) m l r = absurd (omega arith)
falls j (x ∷ y ∷ z ∷ []) m l r = absurd (omega arith)
falls zero (x ∷ y ∷ z ∷ u ∷ run) m l r = omega (arith, r.0.0)
falls (suc j) (x ∷ y ∷ z ∷ u ∷ run) m l r =
    let a : suc j + suc j + 2 ≡ suc (suc (j + j + 2)) = omega arith in
    let b : suc j + suc j ≡ suc (suc (j + j)) = omega arith in
    falls j (z ∷ u ∷ run) (omega arith) (rw (a, b) at l) r.1

key_is : (k j : ℕ) (run d : List ℕ) → j < k → k + k ≤ length run → get_or (get_or (first_chunks 2 k run) j d) 0 0 ≡ get_or run (j + j) 0
key_is k j run d l m = ap (λ (p : Pair). p.key) (chunk_pair k j run d l m)

next_is : (k j : ℕ) (run d : List ℕ) → j + 1 < k → k + k ≤ length run → get_or (get_or (first_chunks 2 k run) (j + 1) d) 0 0 ≡ get_or run (j + j + 2) 0
next_is k j run d l m = let a : (j + 1) + (j + 1) ≡ j + j + 2 = omega arith in rw a at (key_is k (j + 1) run d l m)

pub rising_decided : (r : Bool) (half : ℕ) (run : List ℕ) → length run ≡ half + half → IsAllAdjacentAnswer (λ x y b. b ≡ ltb (get_or x 0 0) (get_or y 0 0)) (first_chunks 2 half run) r → Decides r (Rising (pairs_of run))
rising_decided true half run e a = climbs half run e (λ j l. omega (arith, ltb-true _ _ (sym (a j [] (omega (arith, chunks_long half run)))), key_is half j run [] (omega arith) (omega arith), next_is half j run [] l (omega arith)))
rising_decided false half run e a =
    let l : a.0 + 1 < half = omega (arith, a.1, chunks_long half run) in
    falls a.0 run (omega arith) (omega (arith, ltb-false _ _ (sym (a.2 [])), key_is half a.0 run [] (omega arith) (omega arith), next_is half a.0 run [] l (omega arith)))
