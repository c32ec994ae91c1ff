-- `cut::cut` meets its contract.
-- Assumes nothing.
use Rattle.std.proofs.Common.{◌-◌, ◌≤◌, ◌≡◌, length, arith}
use Rattle.model.specs.Layout.{Sized}
use Rattle.model.specs.Room.{nodes_for}
use Rattle.model.specs.State.{State}
use Rattle.model.specs.Parting.{part_off}
use Rattle.model.specs.Promise.{Holds}
use Rattle.model.proofs.Forward.{forward}
use Rattle.cut.specs.Moves.{Upper}
use Rattle.cut.proofs.Ends.{rank_few, part_pairs, no_nodes, upper, cut_done}
use Rattle.cut.proofs.cut.Goals as goal
use Rattle.cut.proofs.cut.Goals.{In_ok-nodes, Else-nodes_for-nodes, After-passed, at-Else-nodes_for-nodes}

-- the slice is an arena's
fits : (c : In_ok-nodes) → Sized c.in_ok-nodes.nodes (length c.args.second.now)
fits c = rw c.in_ok-nodes.ensures.ok_part at c.node_count.ensures

-- so many go
parts : (c : After-passed) {s : State} → Holds c.args.first.now s → c.pairs.result - c.passed.result ≡ length (part_off c.args.key s)
parts c o = part_pairs c.args.key o _ _ c.pairs.ensures (c.passed.ensures _ o)

-- there are nodes enough
room : (c : Else-nodes_for-nodes) → nodes_for (c.pairs.result - c.passed.result) ≤ c.in_ok-nodes.nodes
room c = omega (arith, c.if-nodes_for-nodes.false, c.nodes_for.ensures)

loaded : (c : Else-nodes_for-nodes) {s : State} → Holds c.args.first.now s → Upper c.args.key s c.args.second.now (c.pairs.result - c.passed.result) c.in_ok-nodes.nodes
loaded c o = upper c.args.key c.args.first.now c.args.second.now _ (fits (at-Else-nodes_for-nodes c).In_ok-nodes) o _ (parts (at-Else-nodes_for-nodes c).After-passed o) (room c)

pub overflow_sub-pairs : goal.overflow_sub-pairs
overflow_sub-pairs c = let o = forward _ c.in_ok-check.ensures.ok in rank_few c.args.key o _ _ c.pairs.ensures (c.passed.ensures _ o)

pub returns-then-nodes_for-nodes : goal.returns-then-nodes_for-nodes
returns-then-nodes_for-nodes c =
    let x = c.args in
    let o = forward _ c.in_ok-check.ensures.ok in
    no_nodes x.key x.first.now x.second.now _ (fits (goal.at.returns-then-nodes_for-nodes c).In_ok-nodes) o _ (parts (goal.at.returns-then-nodes_for-nodes c).After-passed o) (omega (arith, c.if-nodes_for-nodes.true, c.nodes_for.ensures))

pub load_upper-requires : goal.load_upper-requires
load_upper-requires c = let o = forward _ c.in_ok-check.ensures.ok in record { state = _; holds = o; upper = loaded (goal.at.load_upper-requires c).Else-nodes_for-nodes o }

pub returns : goal.returns
returns c =
    let x = c.args in
    let o = forward _ c.in_ok-check.ensures.ok in
    let m = (goal.at.returns c).Else-nodes_for-nodes in
    cut_done x.key x.first.now x.second.now _ (fits (goal.at.returns c).In_ok-nodes) o _ (parts (goal.at.returns c).After-passed o) (room m) (c.cut_first.ensures _ o) (c.load_upper.ensures _ o (loaded m o))
