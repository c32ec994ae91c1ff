-- Assumes nothing.
use Rattle.std.proofs.Common.{Some}
use Rattle.checker.proofs.Nodes.{leaf_steps}
use Rattle.checker.specs.Walks.{Said}
use Rattle.checker.proofs.check_keys.Given as goal

abbrev pub invariant-loop-i : goal.invariant-loop-i
invariant-loop-i g l = Said (leaf_steps g.F.Format.layout l.arena.words.now l.node.0 l.i) l.fn.before (Some l.w)
