-- Assumes nothing.
use Rattle.std.proofs.Common.{◌≡◌, ◌-◌, ◌++◌, take}
use Rattle.model.specs.Layout.{base, cells}
use Rattle.format.specs.Formatting.{free_nodes}
use Rattle.format.proofs.write_chain.Given as goal

abbrev pub invariant-loop-i : goal.invariant-loop-i
invariant-loop-i l = take (base l.i) l.a ++ cells (free_nodes l.i (l.count - l.i)) ≡ take (base 1) l.initial.a ++ cells (free_nodes 1 (l.count - 1))
