-- Assumes nothing.
use Rattle.std.proofs.Common.{◌-◌}
use Rattle.model.specs.Nodes.{Grown}
use Rattle.standing.specs.Heads.{Rest}
use Rattle.border.specs.Borders.{side_at, Topped, Descending, down}
use Rattle.border.proofs.fix_border_of_edge.Given as goal

abbrev pub invariant-loop : goal.invariant-loop
invariant-loop l = (g : Rest) (t : Grown) → Topped l.initial.a g t → Descending (side_at l.border) l.a g l.node.0 (l.end - l.counter) (down (side_at l.border) t)
