-- Assumes nothing.
use Rattle.model.specs.State.{State}
use Rattle.model.specs.Promise.{Holds}
use Rattle.batch.proofs.Turns.{Turn}
use Rattle.batch.proofs.run_all.Given as goal

abbrev pub invariant-loop-i : goal.invariant-loop-i
invariant-loop-i l = (s : State) → Holds l.initial.a s → Turn l.initial.orders s l.initial.answers l.a l.answers l.i
