-- Assumes nothing.
use Rattle.std.proofs.Common.{◌<◌}
use Rattle.search.proofs.Halving.{Halved}
use Rattle.search.proofs.halve.Given as goal

abbrev pub invariant-loop-size : goal.invariant-loop-size
invariant-loop-size l = (0 < l.size) × Halved l.initial.key l.initial.keys l.initial.i l.i l.size l.k

abbrev pub decreases-loop-size : goal.decreases-loop-size
decreases-loop-size l = l.size
