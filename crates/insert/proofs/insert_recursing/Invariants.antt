-- Assumes nothing.
use Rattle.std.proofs.Common.{◌≡◌, length}
use Rattle.model.specs.Layout.{header, free_word}
use Rattle.model.specs.Nodes.{Grown}
use Rattle.standing.specs.Heads.{Rest}
use Rattle.insert.specs.Inserts.{Upward}
use Rattle.insert.proofs.Targets.{left_over}
use Rattle.insert.proofs.insert_recursing.Given as goal

abbrev pub invariant-loop-split : goal.invariant-loop-split
invariant-loop-split l = (length l.a ≡ length l.initial.a) × ((g : Rest) (t : Grown) → Upward l.initial.a g l.initial.node.0 l.initial.split t → Upward l.a g l.node.0 l.split t)

-- each node that is split takes a free one
abbrev pub decreases-loop-split : goal.decreases-loop-split
decreases-loop-split l = left_over l.split (header l.a free_word)
