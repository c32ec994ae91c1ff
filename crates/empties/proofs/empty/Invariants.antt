-- Assumes nothing.
use Rattle.std.proofs.Common.{◌<◌}
use Rattle.empties.proofs.empty.Given as goal

abbrev pub invariant-loop-i : goal.invariant-loop-i
invariant-loop-i g l = l.key < 811
