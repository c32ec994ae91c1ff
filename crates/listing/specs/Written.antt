-- What a walk from a leaf edge writes.
-- Assumes nothing.
use Rattle.std.specs.Prelude.{ℕ, zero, ◌≡◌, List, ltb, length, take}
use Rattle.model.specs.declared.SearchBound.{SearchBound}
use Rattle.model.specs.declared.Page.{Page}
use Rattle.model.specs.Tree.{Pair, Ctx, after}
use Rattle.model.specs.Map.{up_to}
use Rattle.model.specs.Promise.{room, laid}

-- of all these pairs, as many as there is room for
pub record Lays (all : List Pair) (o o' : List ℕ) (r : Page) : Type 0 where
  pub written : o' ≡ laid (take (room o) all) o
  pub said : r ≡ record { wrote = length (take (room o) all); more = ltb (room o) (length all) }

-- the pairs after a leaf edge, up to the end
abbrev pub Written : SearchBound → Ctx zero → List ℕ → List ℕ → Page → Type 0
Written end c = Lays (up_to end (after c))
