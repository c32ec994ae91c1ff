-- Assumes nothing.
use Prim.Native.Nat.{◌+◌}
use mathlib.Core.Path.{◌≡◌}
use Rattle.model.specs.Room.{above, nodes_for}
use Rattle.append.proofs.nodes_for.Given as goal

abbrev pub invariant-loop-left : goal.invariant-loop-left
invariant-loop-left l = l.nodes + above l.left l.left ≡ nodes_for l.initial.pairs

abbrev pub decreases-loop-left : goal.decreases-loop-left
decreases-loop-left l = l.left
