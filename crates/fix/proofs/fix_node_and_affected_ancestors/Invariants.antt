-- Assumes nothing.
use Prim.Native.Nat.{◌-◌}
use mathlib.Core.Path.{◌≡◌}
use lib.ListN.{length}
use Rattle.model.specs.Layout.{header, count_word, free_word}
use Rattle.model.specs.Nodes.{Grown}
use Rattle.standing.specs.Heads.{Rest}
use Rattle.fix.specs.Repairs.{Mending, Mends}
use Rattle.fix.proofs.fix_node_and_affected_ancestors.Given as goal

abbrev pub invariant-loop-parent : goal.invariant-loop-parent
invariant-loop-parent l = Mends l.a l.n.0 × (length l.a ≡ length l.initial.a) × ((g : Rest) (t : Grown) → Mending l.initial.a g l.initial.n.0 t → Mending l.a g l.n.0 t)

-- the nodes in use
abbrev pub decreases-loop-parent : goal.decreases-loop-parent
decreases-loop-parent l = header l.a count_word - header l.a free_word
