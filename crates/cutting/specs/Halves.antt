-- A state cut off at a key, before its border is repaired.
-- Assumes nothing.
use Rattle.std.specs.Prelude.{ℕ}
use Rattle.model.specs.Tree.{plug}
use Rattle.model.specs.State.{State}
use Rattle.model.specs.Parting.{path_of, trimmed, dropped, returned_all}

abbrev pub half : ℕ → State → State
half k s = record { size = s.size; whole = plug (trimmed (path_of k s.whole)) tt; free = returned_all (dropped (path_of k s.whole)) s.free; mark = s.mark }
