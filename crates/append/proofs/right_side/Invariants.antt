-- Assumes nothing.
use Rattle.std.proofs.Common.{ℕ, suc, ◌+◌, ◌≤◌}
use Rattle.model.specs.Tree.{Tree, Ctx}
use Rattle.standing.specs.Heads.{Rest}
use Rattle.appending.specs.Pushes.{Building}
use Rattle.append.proofs.right_side.Given as goal

abbrev pub invariant-loop-level : goal.invariant-loop-level
invariant-loop-level l = (g : Rest) (h : ℕ) (c : Ctx (suc h)) (x : Tree (suc h)) (n : ℕ) → n + l.levels ≤ g.size → Building l.initial.a g c x n 1 l.leaf.0 → Building l.a g c x n l._level l.top.0
