-- What document 02 asks to be shown of the walking cursor, as statements.
-- Assumes nothing.
use Rattle.std.specs.Prelude.{ℕ, zero, suc, ◌≡◌, ◌⊎◌, ◌↔◌, List, [], ◌∷◌, ◌++◌, map, reverse, length}
use Rattle.std.proofs.Math.Option.{some, none}
use Rattle.model.specs.declared.Answer.TheVariants.{StaleCursor}
use Rattle.model.specs.declared.Picked.{Picked}
use Rattle.model.specs.declared.SearchBound.{SearchBound}
use Rattle.model.specs.declared.SearchBound.TheVariants.{AllIncluded}
use Rattle.model.specs.Tree.{Pair}
use Rattle.model.specs.Map.{Rising, range, nth, picked}
use Rattle.model.specs.State.{State, list}
use Rattle.model.specs.Promise.{Holds}
use Rattle.model.specs.Cursor.{Stop, Stand, before, on, past, Cursor, Moved, PairAt, pair_at, first, last, seek, next, previous}

-- so many steps in turn: what each finds
abbrev pub steps : (Cursor → Moved) → ℕ → Cursor → List Picked
steps f zero c = []
steps f (suc k) c = (f c).found ∷ steps f k (f c).cursor

-- a move and so many steps after it
abbrev pub tour : (Cursor → Moved) → ℕ → Moved → List Picked
tour f k m = m.found ∷ steps f k m.cursor

-- each pair found, and then the end
abbrev pub each : List Pair → List Picked
each ps = map (λ p. picked (some p)) ps ++ picked none ∷ []

abbrev pub standing : ℕ → Stand → Cursor
standing n st = record { changes = n; stand = st }

-- from first, as many nexts as there are pairs yield every pair of the list once, rising, and then 2
abbrev pub EveryRising : Type 0
EveryRising = (w : List ℕ) (s : State) → Holds w s → (n : ℕ) → Rising (list s) × (tour (λ c. next n c s) (length (list s)) (first n s) ≡ each (list s))

-- from last and previous the same, falling
abbrev pub EveryFalling : Type 0
EveryFalling = (w : List ℕ) (s : State) → Holds w s → (n : ℕ) → Rising (list s) × (tour (λ c. previous n c s) (length (list s)) (last n s) ≡ each (reverse (list s)))

-- next then previous from any pair returns to it, and the other way
pub record Returns (w : List ℕ) (s : State) (n : ℕ) (p : Stop) : Type 0 where
  pub next_previous : previous n (next n (standing n (on p)) s).cursor s ≡ record { cursor = standing n (on p); found = picked (some (pair_at w p)) }
  pub previous_next : next n (previous n (standing n (on p)) s).cursor s ≡ record { cursor = standing n (on p); found = picked (some (pair_at w p)) }

abbrev pub ThereAndBack : Type 0
ThereAndBack = (w : List ℕ) (s : State) → Holds w s → (n : ℕ) (p : Stop) → PairAt w p → Returns w s n p

-- seek yields the first pair that a start bound admits; first and last the first and the last
pub record Finds (w : List ℕ) (s : State) (n : ℕ) : Type 0 where
  pub seeks : (b : SearchBound) → (seek n b s).found ≡ picked (nth 0 (range (record { start = b; end = AllIncluded }) (list s)))
  pub first_is : (first n s).found ≡ picked (nth 0 (list s))
  pub last_is : (last n s).found ≡ picked (nth 0 (reverse (list s)))

abbrev pub FirstAdmitted : Type 0
FirstAdmitted = (w : List ℕ) (s : State) → Holds w s → (n : ℕ) → Finds w s n

-- the place holds no pair and is no end
abbrev pub NoPair : List ℕ → Stand → Type 0
NoPair w before = ⊥
NoPair w (on p) = PairAt w p → ⊥
NoPair w past = ⊥

-- the counts differ, or that
abbrev pub Stale : List ℕ → ℕ → Cursor → Type 0
Stale w n c = (n ≡ c.changes → ⊥) ⊎ NoPair w c.stand

-- a step is refused as 9 exactly then, and leaves the cursor
pub record Refuses (w : List ℕ) (n : ℕ) (c : Cursor) (m : Moved) : Type 0 where
  pub exactly : (m.found.answer ≡ StaleCursor) ↔ Stale w n c
  pub unmoved : m.found.answer ≡ StaleCursor → m ≡ record { cursor = c; found = record { answer = StaleCursor; key = 0 } }

abbrev pub ExactlyStale : Type 0
ExactlyStale = (w : List ℕ) (s : State) → Holds w s → (n : ℕ) (c : Cursor) → Refuses w n c (next n c s) × Refuses w n c (previous n c s)

-- a step past an end stays there; the opposite step returns to the end pair, in an empty tree to the other end
pub record AtTheEnds (s : State) (n : ℕ) : Type 0 where
  pub past_stays : next n (standing n past) s ≡ record { cursor = standing n past; found = picked none }
  pub before_stays : previous n (standing n before) s ≡ record { cursor = standing n before; found = picked none }
  pub back_to_last : previous n (standing n past) s ≡ last n s
  pub back_to_first : next n (standing n before) s ≡ first n s
  pub empty_back : list s ≡ [] → previous n (standing n past) s ≡ record { cursor = standing n before; found = picked none }
  pub empty_on : list s ≡ [] → next n (standing n before) s ≡ record { cursor = standing n past; found = picked none }

abbrev pub Ends : Type 0
Ends = (s : State) (n : ℕ) → AtTheEnds s n
