-- Assumes nothing.
use Rattle.std.proofs.Common.{◌-◌}
use Rattle.model.specs.Layout.{header, height_word}
use Rattle.model.specs.Walk.{back_kv}
use Rattle.model.specs.State.{State}
use Rattle.model.specs.Promise.{Holds}
use Rattle.navigate.specs.Places.{EdgeAt}
use Rattle.navigate.proofs.Steps.{Climb, Backs}
use Rattle.navigate.proofs.next_back_kv.Given as goal

abbrev pub invariant-loop-edge : goal.invariant-loop-edge
invariant-loop-edge l = (s : State) → Holds l.fn.a s → (y : EdgeAt s l.fn.from) → Climb (Backs (back_kv y.way) y.way) s l.edge.node.0 l.edge.height l.edge.at.0

abbrev pub decreases-loop-edge : goal.decreases-loop-edge
decreases-loop-edge l = header l.fn.a height_word - l.edge.height
