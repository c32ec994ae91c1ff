-- The code's cursor as the model's, and what its steps ask for.
-- Assumes nothing.
use Rattle.std.specs.Prelude.{ℕ, ◌≡◌, ◌⊎◌, List, Option, Result, Ok, Err}
use Rattle.model.specs.declared.Refused.{Refused}
use Rattle.model.specs.declared.Refused.TheVariants.{BadArena, StaleCursor}
use Rattle.model.specs.Answer.{said_picked}
use Rattle.model.specs.WellFormed.{WellFormed}
use Rattle.model.specs.Search.{Spot}
use Rattle.model.specs.State.{State, At}
use Rattle.model.specs.Cursor as on
use Rattle.node.specs.declared.NodeNo.{NodeNo}
use Rattle.node.specs.declared.Place.{Place}
use Rattle.search.specs.declared.Handle.{Handle}
use Rattle.navigate.specs.Places.{InTree, stepped}
use Rattle.walking.specs.Walking.{Stale}
use Rattle.cursor.specs.declared.Stand.{Stand}
use Rattle.cursor.specs.declared.Stand.TheVariants.{Before, At as OnPair, Past}
use Rattle.cursor.specs.declared.Cursor.{Cursor}

abbrev pub stop_of : NodeNo → Place → on.Stop
stop_of n i = record { node = n.0; place = i.0 }

abbrev pub stand_of : Stand → on.Stand
stand_of Before = on.before
stand_of (OnPair n i) = on.on (stop_of n i)
stand_of Past = on.past

abbrev pub cursor_of : Cursor → on.Cursor
cursor_of c = record { changes = c.changes; stand = stand_of c.stand }

-- where a move has led, with this count
abbrev pub moved_of : ℕ → Stand × Option (ℕ × ℕ) → on.Moved
moved_of n m = record { cursor = record { changes = n; stand = stand_of m.0 }; found = said_picked (Ok m.1) }

-- a cursor at a pair
abbrev pub standing : ℕ → NodeNo → Place → on.Cursor
standing n m i = record { changes = n; stand = on.on (stop_of m i) }

-- where a step has ended
pub record Stepping (s : State) (to : Option Handle) : Type 0 where
  pub spot : Spot
  pub inside : InTree s.whole spot
  pub is : to ≡ stepped spot

-- n is a node of the tree
pub record InNode (s : State) (n : ℕ) : Type 0 where
  pub height : ℕ
  pub place : At s n height

-- no place, or one that holds a pair
abbrev pub Ready : List ℕ → Stand → Type 0
Ready w Before = Unit {0}
Ready w (OnPair n i) = on.PairAt w (stop_of n i)
Ready w Past = Unit {0}

-- a step may be made from where the cursor stands, or is refused
pub record Allows (w : List ℕ) (n : ℕ) (c : Cursor) (st : Stand) : Type 0 where
  pub formed : WellFormed w
  pub same : c.changes ≡ n
  pub stand_is : st ≡ c.stand
  pub ready : Ready w st

abbrev pub Checked : List ℕ → ℕ → Cursor → Result Stand Refused → Type 0
Checked w n c (Ok st) = Allows w n c st
Checked w n c (Err r) = ((WellFormed w → ⊥) × (r ≡ BadArena)) ⊎ (WellFormed w × Stale w n (cursor_of c) × (r ≡ StaleCursor))
