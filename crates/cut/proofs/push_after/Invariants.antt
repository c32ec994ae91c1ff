-- Wherever it was going where the loop began, it is going still.
-- Assumes nothing.
use Rattle.std.proofs.Common.{◌-◌, List}
use Rattle.model.specs.Tree.{Pair}
use Rattle.model.specs.State.{State}
use Rattle.model.specs.Promise.{Holds}
use Rattle.standing.specs.Heads.{Rest}
use Rattle.cut.specs.Moves.{Moving}
use Rattle.cut.proofs.push_after.Given as goal

abbrev pub invariant-loop : goal.invariant-loop
invariant-loop l = (s : State) → Holds l.initial.a s → (g : Rest) (all : List Pair) → Moving s g all l.initial.b l.initial.leaf.0 l.initial.pairs l.initial.at → Moving s g all l.b l.leaf.0 (l.initial.pairs - l.counter) l.at
