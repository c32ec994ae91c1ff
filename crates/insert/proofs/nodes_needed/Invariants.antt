-- Assumes nothing.
use Rattle.std.proofs.Common.{ℕ, ◌-◌}
use Rattle.model.specs.Layout.{header, height_word}
use Rattle.model.specs.State.{State}
use Rattle.model.specs.Promise.{Holds}
use Rattle.insert.proofs.Needed.{Counting}
use Rattle.insert.proofs.nodes_needed.Given as goal

abbrev pub invariant-loop-node : goal.invariant-loop-node
invariant-loop-node l = (total : ℕ) (s : State) → Holds l.initial.a s → Counting total s l.initial.node.0 l.initial.count → Counting total s l.node.0 l.count

-- the levels above
abbrev pub decreases-loop-node : goal.decreases-loop-node
decreases-loop-node l = header l.a height_word - l.count
