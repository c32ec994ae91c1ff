-- How many keys come in until one finds no room.
-- Assumes nothing.
use Rattle.std.specs.Prelude.{ℕ, ◌+◌, ◌≤◌, ◌<◌, ◌≡◌, List}
use Rattle.model.specs.declared.Answer.{Answer}
use Rattle.model.specs.declared.Answer.TheVariants.{NoRoom}
use Rattle.model.specs.Answer.{numbers_of}
use Rattle.model.specs.State.{put}
use Rattle.model.specs.Promise.{Call}
use Rattle.telling.specs.Numbers.{around_of}

-- so many keys are tried, all below a prime
abbrev pub tries : ℕ
tries = 1000

abbrev pub prime : ℕ
prime = 10007

-- from the words w, with `key` the next and i keys put, to w' with r keys put
pub data Fills (step : ℕ) (w' : List ℕ) (r : ℕ) : ℕ → ℕ → List ℕ → Type 0 where
  all_tried : {key i : ℕ} {w : List ℕ} → tries ≤ i → w' ≡ w → r ≡ i → Fills step w' r key i w
  no_room : {key i : ℕ} {w : List ℕ} (x : Answer) → i < tries → Call (put key i) w w' x → (numbers_of x).number ≡ (numbers_of NoRoom).number → r ≡ i → Fills step w' r key i w
  came_in : {key i : ℕ} {w : List ℕ} (x : Answer) (u : List ℕ) (next : ℕ) → i < tries → Call (put key i) w u x → ((numbers_of x).number ≡ (numbers_of NoRoom).number → ⊥) → next ≡ around_of key step prime → Fills step w' r next (i + 1) u → Fills step w' r key i w
