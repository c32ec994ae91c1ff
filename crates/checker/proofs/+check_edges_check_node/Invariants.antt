-- The height falls: with h levels below its node `checker::check_node` has the measure 3h, `checker::check_child` 3h + 1, and
-- `checker::check_edges`, with h levels below its edges, 3h + 2.
-- Assumes nothing.
use Rattle.std.proofs.Common.{◌+◌, ◌*◌, ◌≤◌, Some}
use Rattle.checker.proofs.Nodes.{edge_steps}
use Rattle.checker.specs.Walks.{Said}
use Rattle.checker.proofs.+check_edges_check_node.Given as goal

abbrev pub decreases-check_child : goal.decreases-check_child
decreases-check_child g l = 3 * l.v.below + 1

abbrev pub decreases-check_edges : goal.decreases-check_edges
decreases-check_edges g l = 3 * l.below + 2

abbrev pub decreases-check_node : goal.decreases-check_node
decreases-check_node g l = 3 * l.v.below

-- the edges passed, each with the key after it
abbrev pub invariant-check_edges-loop-i : goal.invariant-check_edges-loop-i
invariant-check_edges-loop-i g l = (l.i ≤ l.n) × Said (edge_steps g.F.Format.layout l.arena.words.now l.arena.count l.below l.node.0 l.i) l.fn.before (Some l.w)
