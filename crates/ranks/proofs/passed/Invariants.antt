-- Assumes nothing.
use Rattle.std.proofs.Common.{◌-◌}
use Rattle.model.specs.Tree.{top}
use Rattle.model.specs.Search.{sink}
use Rattle.model.specs.Range.{starts}
use Rattle.model.specs.State.{State}
use Rattle.model.specs.Promise.{Holds}
use Rattle.ranks.proofs.Lefts.{Sinking}
use Rattle.ranks.proofs.passed.Given as goal

abbrev pub invariant-loop : goal.invariant-loop
invariant-loop l = (s : State) → Holds l.fn.a s → Sinking (sink (starts l.fn.start) s.whole.height top s.whole.root) s l.bound l.node.0 (l.end - l.counter) l.sum
