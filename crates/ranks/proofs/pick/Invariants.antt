-- Assumes nothing.
use Rattle.model.specs.State.{State}
use Rattle.model.specs.Promise.{Holds}
use Rattle.ranks.proofs.Lefts.{Seeking}
use Rattle.ranks.proofs.pick.Given as goal

abbrev pub invariant-loop-height : goal.invariant-loop-height
invariant-loop-height l = (s : State) → Holds l.fn.a s → Seeking s l.fn.rank l.node.0 l.height l.rest
