use Rattle.std.proofs.Common.{ℕ}
use Rattle.model.specs.State.{State, At}
use Rattle.model.specs.Promise.{Holds}
use Rattle.cursor.proofs.Moves.{Sunk}
use Rattle.cursor.proofs.height_of.Given as goal

abbrev pub invariant-loop-height : goal.invariant-loop-height
invariant-loop-height l = (s : State) → Holds l.initial.a s → (h : ℕ) → At s l.initial.below.0 h → Sunk s l.below.0 l.height h
