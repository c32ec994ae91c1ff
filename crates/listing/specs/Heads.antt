-- What a walk has before it.
-- Assumes nothing.
use Rattle.std.specs.Prelude.{◌≡◌, List, [], ◌∷◌, Option, Some, None}
use Rattle.model.specs.declared.SearchBound.{SearchBound}
use Rattle.model.specs.Tree.{Pair, after}
use Rattle.model.specs.Map.{up_to}
use Rattle.model.specs.State.{State}
use Rattle.node.specs.declared.Kv.{Kv}
use Rattle.node.specs.Reading.{pair_of}
use Rattle.search.specs.declared.Handle.{Handle}
use Rattle.navigate.specs.Places.{EdgeAt}

-- the next pair of a walk, and the leaf edge after it
abbrev pub Head : Type 0
Head = Option (Kv × Handle)

-- the pairs ps are the head's, and those after its edge
abbrev pub HeadOf : State → List Pair → Head → Type 0
HeadOf s ps (Some x) = (y : EdgeAt s x.1) × (ps ≡ pair_of x.0 ∷ after y.way)
HeadOf s ps None = ps ≡ []

-- the same of those up to the end
abbrev pub HeadUpTo : SearchBound → State → List Pair → Head → Type 0
HeadUpTo end s ps (Some x) = (y : EdgeAt s x.1) × (up_to end ps ≡ pair_of x.0 ∷ up_to end (after y.way))
HeadUpTo end s ps None = up_to end ps ≡ []
