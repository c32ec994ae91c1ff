-- Where a step of the code ends, as what a cursor call hands back.
-- Assumes nothing.
use Rattle.std.specs.Prelude.{ℕ, length}
use Rattle.std.proofs.Math.Option.{some, none}
use Rattle.model.specs.Search.{Spot, at, gap}
use Rattle.model.specs.Map.{picked}
use Rattle.model.specs.Cursor.{Stand, on, Moved}

-- on the spot's pair, or at an end
abbrev pub arrived : ℕ → Stand → Spot → Moved
arrived n end (gap c) = record { cursor = record { changes = n; stand = end }; found = picked none }
arrived n end (at c m l e x r) = record { cursor = record { changes = n; stand = on (record { node = m; place = length l }) }; found = picked (some x.pair) }
