-- What a deletion mixes in.
-- Assumes nothing.
use Rattle.std.specs.Prelude.{◌≡◌, ℕ, ◌+◌, ◌%◌, ◌^◌, List}
use Rattle.model.specs.declared.Answer.{Answer}
use Rattle.model.specs.Answer.{numbers_of}
use Rattle.model.specs.State.{delete}
use Rattle.model.specs.Promise.{Call}
use Rattle.telling.specs.Numbers.{mix_of, mix_all}

-- both words of an answer as one
abbrev pub summed : Answer → ℕ
summed x = ((numbers_of x).number + (numbers_of x).word) % 2 ^ 64

-- the deletion of a key from the words w left w'; its answer and they make the mix r
pub record Taken (key mix : ℕ) (w w' : List ℕ) (r : ℕ) : Type 0 where
  pub answer : Answer
  pub deleted : Call (delete key) w w' answer
  pub mixes : r ≡ mix_all (mix_of mix (summed answer)) w'
