-- Assumes nothing.
use Rattle.std.proofs.Common.{ℕ, ◌<◌}
use Rattle.inspect.specs.Tests.{LeadsBy}
use Rattle.inspect.proofs.lead.Given as goal

abbrev pub invariant-loop-i : goal.invariant-loop-i
invariant-loop-i g l = (j : ℕ) → j < l.i → LeadsBy g.F.Format.layout l.arena.words.now l.arena.count l.node.0 j
