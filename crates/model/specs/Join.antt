-- Joining two indexes: the first is loaded anew with both lists joined, the second ends as an empty formatted tree; both keep their sizes.
-- Assumes nothing.
use Rattle.std.specs.Prelude.{List}
use Rattle.model.specs.Tree.{Pair}
use Rattle.model.specs.Mark.{higher}
use Rattle.model.specs.State.{State, list, formatted}
use Rattle.model.specs.Load.{loaded_with}
use Rattle.model.specs.Merge.{merge}

-- the joined run
abbrev pub joined_run : State → State → List Pair
joined_run a b = merge (list a) (list b)

-- the first afterwards, and the second
abbrev pub joined : State → State → State
joined a b = loaded_with (higher a.mark b.mark) a.size (joined_run a b)

abbrev pub emptied : State → State
emptied b = let f = formatted b.size in record { size = b.size; whole = f.whole; free = f.free; mark = b.mark }
