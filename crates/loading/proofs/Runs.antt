-- A run's words and its pairs.
-- Assumes nothing.
use Prim.Native.Nat.{ℕ, zero, suc, ◌+◌}
use native.Mathlib.Omega.{arith}
use mathlib.Core.Path.{◌≡◌, refl, ap}
use mathlib.Core.List.{List, [], ◌∷◌}
use lib.ListN.{length}
use Rattle.model.specs.Tree.{Pair}
use Rattle.model.specs.Load.{pairs_of, Even}
use Rattle.model.specs.Promise.{pair_words}

-- the pairs of words that were written for pairs are those
pub pairs_back : (ps : List Pair) → pairs_of (pair_words ps) ≡ ps
pairs_back [] = refl
pairs_back (p ∷ ps) = ap (λ (l : List Pair). p ∷ l) (pairs_back ps)

-- and the words of an even run's pairs are the run
pub words_back : (ws : List ℕ) → Even (length ws) → pair_words (pairs_of ws) ≡ ws
words_back [] v = refl
words_back (k ∷ []) v = absurd (omega (arith, v.is))
words_back (k ∷ x ∷ ws) v = ap (λ (l : List ℕ). k ∷ x ∷ l) (words_back ws (less v.half v.is))
  where
    less : (j : ℕ) → suc (suc (length ws)) ≡ j + j → Even (length ws)
    less zero e = absurd (omega arith)
    less (suc j) e = record { half = j; is = omega arith }

pub words_even : (ps : List Pair) → Even (length (pair_words ps))
words_even [] = record { half = 0; is = refl }
words_even (p ∷ ps) = let v = words_even ps in record { half = suc v.half; is = omega (arith, v.is) }

-- as many pairs as half the words
pub pairs_half : (j : ℕ) (run : List ℕ) → length run ≡ j + j → length (pairs_of run) ≡ j
pairs_half zero [] e = refl
pairs_half (suc j) [] e = absurd (omega arith)
pairs_half j (k ∷ []) e = absurd (let z : suc 0 ≡ j + j = e in omega arith)
pairs_half zero (k ∷ v ∷ ws) e = absurd (omega arith)
pairs_half (suc j) (k ∷ v ∷ ws) e = ap suc (pairs_half j ws (omega arith))
