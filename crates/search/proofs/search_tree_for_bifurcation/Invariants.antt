-- Assumes nothing.
use Rattle.model.specs.State.{State}
use Rattle.model.specs.Promise.{Holds}
use Rattle.search.proofs.Descents.{Forking}
use Rattle.search.proofs.search_tree_for_bifurcation.Given as goal

abbrev pub invariant-loop-node : goal.invariant-loop-node
invariant-loop-node l = (s : State) → Holds l.initial.a s → Forking l.initial.bounds s l.bounds l.node.0 l.height

abbrev pub decreases-loop-node : goal.decreases-loop-node
decreases-loop-node l = l.height
