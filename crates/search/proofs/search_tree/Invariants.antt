-- Assumes nothing.
use Rattle.model.specs.State.{State}
use Rattle.model.specs.Promise.{Holds}
use Rattle.search.proofs.Descents.{Seeking}
use Rattle.search.proofs.search_tree.Given as goal

abbrev pub invariant-levels : goal.invariant-levels
invariant-levels l = (s : State) → Holds l.initial.a s → Seeking l.initial.key s l.node.0 l.height

abbrev pub decreases-levels : goal.decreases-levels
decreases-levels l = l.height
