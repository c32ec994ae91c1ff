-- Assumes nothing.
use Rattle.std.proofs.Common.{◌≡◌}
use Rattle.model.specs.WellFormed.{key_at_by}
use Rattle.inspect.specs.Tests.{ups}
use Rattle.inspect.proofs.ascents.Given as goal

abbrev pub invariant-loop-i : goal.invariant-loop-i
invariant-loop-i g l = l.m ≡ ups (key_at_by g.F.Format.layout l.arena.words.now l.node.0) l.i
