-- Assumes nothing.
use Rattle.std.proofs.Common.{ℕ, suc, ◌<◌, length}
use Rattle.model.specs.Tree.{flat}
use Rattle.model.specs.State.{State, At}
use Rattle.model.specs.Promise.{Holds}
use Rattle.ranks.proofs.Lefts.{Coming}
use Rattle.ranks.proofs.pass_edges.Given as goal

abbrev pub invariant-loop-i : goal.invariant-loop-i
invariant-loop-i l = (s : State) → Holds l.fn.a s → (h : ℕ) (p : At s l.fn.node.0 (suc h)) → l.fn.rank < length (flat (suc (suc h)) p.tree) → Coming (suc h) p.tree l.fn.rank l.i l.rest
