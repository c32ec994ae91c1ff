-- Assumes nothing.
use Prim.Native.Nat.{◌+◌, ◌-◌}
use mathlib.Core.Path.{◌≡◌}
use Rattle.model.specs.Layout.{header, height_word}
use Rattle.model.specs.Tree.{Pair}
use Rattle.standing.specs.Heads.{Rest}
use Rattle.model.specs.Load.{Loading}
use Rattle.appending.specs.Pushes.{Rising}
use Rattle.append.proofs.open_node.Given as goal

abbrev pub invariant-loop-parent : goal.invariant-loop-parent
invariant-loop-parent l = (l.a ≡ l.initial.a) × ((g : Rest) (p : Pair) (t : Loading) → Rising l.initial.a g l.initial.node.0 l.initial.levels p t → Rising l.a g l.node.0 l.levels p t)

abbrev pub decreases-loop-parent : goal.decreases-loop-parent
decreases-loop-parent l = header l.initial.a height_word + 1 - l.levels
