-- Assumes nothing.
use Rattle.std.proofs.Common.{◌-◌, false}
use Rattle.model.specs.Walk.{back_edge}
use Rattle.model.specs.State.{State}
use Rattle.model.specs.Promise.{Holds}
use Rattle.navigate.specs.Places.{KvAt}
use Rattle.navigate.proofs.Steps.{Dive}
use Rattle.navigate.proofs.next_back_leaf_edge.Given as goal

abbrev pub invariant-loop : goal.invariant-loop
invariant-loop l = (s : State) → Holds l.fn.a s → (y : KvAt s l.fn.kv) → Dive (λ k. false) (back_edge y.ctx y.no y.left y.hole y.item y.right) s l.node.0 (l.end - l.counter) l.at.0
