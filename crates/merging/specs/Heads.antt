-- What two walks have before them.
-- Assumes nothing.
use Rattle.std.specs.Prelude.{ℕ, ◌+◌, ◌*◌, ◌≤◌, ◌≡◌, List, [], ◌∷◌, length, Option, Some, None}
use Rattle.model.specs.Layout.{header, pairs_word}
use Rattle.model.specs.Tree.{Pair}
use Rattle.model.specs.State.{State}
use Rattle.model.specs.Merge.{merge}
use Rattle.node.specs.declared.Kv.{Kv}
use Rattle.node.specs.Reading.{pair_of}
use Rattle.listing.specs.Heads.{Head, HeadOf}

abbrev pub HeadIn : State → Head → Type 0
HeadIn s h = (ps : List Pair) × HeadOf s ps h

-- the pairs l are this one, then those of two walks merged
pub record Stepped (s t : State) (l : List Pair) (kv : Kv) (x y : Head) : Type 0 where
  pub first : List Pair
  pub second : List Pair
  pub first_is : HeadOf s first x
  pub second_is : HeadOf t second y
  pub split : l ≡ pair_of kv ∷ merge first second

abbrev pub MergedOf : State → State → List Pair → Option (Kv × Head × Head) → Type 0
MergedOf s t l (Some z) = Stepped s t l z.0 z.1 z.2
MergedOf s t l None = l ≡ []

-- two words for each pair of both, as their headers count them
abbrev pub Fits : (a b o : List ℕ) → Type 0
Fits a b o = 2 * (header a pairs_word + header b pairs_word) ≤ length o
