-- Assumes nothing.
use Rattle.std.proofs.Common.{◌-◌, ◌↔◌}
use Rattle.model.specs.Shape.{ChainBy}
use Rattle.inspect.proofs.chain.Given as goal

-- what is left is a chain exactly where the whole is
abbrev pub invariant-loop : goal.invariant-loop
invariant-loop g l = ChainBy g.F.Format.layout l.arena.words.now l.arena.count (l.free - l.counter) l.at ↔ ChainBy g.F.Format.layout l.arena.words.now l.arena.count l.free l.first
