-- A word in bytes, the lowest first, and all words of a slice mixed into one number.
-- Assumes nothing.
use Rattle.std.specs.Prelude.{ℕ, ◌+◌, ◌-◌, ◌*◌, ◌%◌, ◌^◌, cond, List, fold, nat_le, slice_index}

-- four bytes from `at` on
abbrev pub half_in : List ℕ → ℕ → ℕ
half_in b at = slice_index b at + 256 * slice_index b (at + 1) + 65536 * slice_index b (at + 2) + 16777216 * slice_index b (at + 3)

abbrev pub word_in : List ℕ → ℕ → ℕ
word_in b at = half_in b at + 4294967296 * half_in b (at + 4)

-- 31 times the number so far, and the word, in 64 bits
abbrev pub mix_of : ℕ → ℕ → ℕ
mix_of mix w = (31 * mix + w) % 2 ^ 64

abbrev pub mix_all : ℕ → List ℕ → ℕ
mix_all = fold mix_of

-- the key `step` after one, round and round
abbrev pub around_of : ℕ → ℕ → ℕ → ℕ
around_of key step round = cond (nat_le round (key + step)) ((key + step) - round) (key + step)
