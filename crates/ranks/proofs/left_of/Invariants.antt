-- Assumes nothing.
use Rattle.std.proofs.Common.{◌≡◌, ℕ, suc, ◌+◌, ◌≤◌, length}
use Rattle.model.specs.State.{State, At}
use Rattle.model.specs.Promise.{Holds}
use Rattle.ranks.proofs.Lefts.{left_sum}
use Rattle.ranks.proofs.left_of.Given as goal

abbrev pub invariant-loop-i : goal.invariant-loop-i
invariant-loop-i l = (s : State) → Holds l.fn.a s → (h : ℕ) (p : At s l.fn.node.0 (suc h)) → l.fn.at.0 ≤ length p.tree.rest → l.sum ≡ l.fn.at.0 + left_sum (suc h) p.tree l.i
