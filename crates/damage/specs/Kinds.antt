-- The digits that are printed, and the kinds of damage.
-- Assumes nothing.
use Rattle.std.specs.Prelude.{ℕ, ◌+◌, ◌%◌, ◌^◌, cond, List, [], ◌∷◌, ◌==◌}
use Rattle.model.specs.Layout.{none}

-- the digits 0, 4 and 7; a question mark for numbers that check and format do not answer
abbrev pub digit_of : ℕ → ℕ
digit_of n = cond (n == 0) 48 (cond (n == 4) 52 (cond (n == 7) 55 63))

abbrev pub largest : ℕ
largest = 18446744073709551615

-- words that mean something in other places
abbrev pub elsewhere : List ℕ
elsewhere = 0 ∷ 1 ∷ 2 ∷ 3 ∷ 4 ∷ 5 ∷ 6 ∷ 7 ∷ 11 ∷ 12 ∷ none ∷ largest ∷ []

-- what a word v is replaced with: one more, one less, and those
abbrev pub wrongs : ℕ → List ℕ
wrongs v = (v + 1) % 2 ^ 64 ∷ (v + largest) % 2 ^ 64 ∷ elsewhere
