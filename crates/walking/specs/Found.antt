-- What the moves find in the plain list of pairs, and where they leave the cursor by the words.
-- Assumes nothing.
use Rattle.std.specs.Prelude.{ℕ, ◌≡◌, List, reverse}
use Rattle.std.proofs.Math.Option.{Option, some, none}
use Rattle.model.specs.declared.SearchBound.{SearchBound}
use Rattle.model.specs.declared.SearchBound.TheVariants.{Excluded, AllIncluded}
use Rattle.model.specs.Tree.{Pair}
use Rattle.model.specs.Map.{range, nth, picked}
use Rattle.model.specs.Cursor.{Stop, Stand, before, on, past, Moved, PairAt, pair_at}

-- a plain list knows no places: of a cursor at a pair it is told the key there, which the words have
abbrev pub KeyAt : List ℕ → Stand → ℕ → Type 0
KeyAt w before k = Unit {0}
KeyAt w (on p) k = (pair_at w p).key ≡ k
KeyAt w past k = Unit {0}

abbrev pub first_of : List Pair → Option Pair
first_of ps = nth 0 ps

abbrev pub last_of : List Pair → Option Pair
last_of ps = nth 0 (reverse ps)

-- the first pair that a start bound admits
abbrev pub sought_in : SearchBound → List Pair → Option Pair
sought_in b ps = first_of (range (record { start = b; end = AllIncluded }) ps)

-- the pair with the next larger key, and the one with the next smaller
abbrev pub next_of : Stand → ℕ → List Pair → Option Pair
next_of before k ps = first_of ps
next_of (on p) k ps = sought_in (Excluded k) ps
next_of past k ps = none

abbrev pub previous_of : Stand → ℕ → List Pair → Option Pair
previous_of before k ps = none
previous_of (on p) k ps = last_of (range (record { start = AllIncluded; end = Excluded k }) ps)
previous_of past k ps = last_of ps

-- the cursor stands on the pair found, or at an end if none was
abbrev pub LeftOn : List ℕ → Stand → Option Pair → Stand → Type 0
LeftOn w end none st = st ≡ end
LeftOn w end (some p) st = (q : Stop) × (st ≡ on q) × PairAt w q × (pair_at w q ≡ p)

pub record Lands (w : List ℕ) (n : ℕ) (end : Stand) (o : Option Pair) (m : Moved) : Type 0 where
  pub finds : m.found ≡ picked o
  pub counts : m.cursor.changes ≡ n
  pub stands : LeftOn w end o m.cursor.stand
