-- Assumes nothing.
use Rattle.std.proofs.Common.{ℕ, List, ◌-◌}
use Rattle.cutting.specs.Trims.{Goal, Trims}
use Rattle.split.proofs.cut_along.Given as goal

abbrev pub invariant-loop-level : goal.invariant-loop-level
invariant-loop-level l = (hd : List ℕ) (g : Goal) → Trims l.initial.a hd g l.initial.node.0 l.initial.at.0 l._level-end → Trims l.a hd g l.node.0 l.at.0 (l._level-end - l._level)
