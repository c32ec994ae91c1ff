-- `counting::count_node` and `counting::count_edges`, which call each other, meet their contracts. The height falls: with h levels below
-- its node the first has the measure 2h, and the second, with h levels below its edges, 2h + 1.
-- Assumes nothing.
use Rattle.std.proofs.Common.{ℕ, suc, ◌+◌, List, arith}
use Rattle.model.specs.Layout.{NodeVal, Arena}
use Rattle.counting.specs.Counting.{TreeIn, Upto}
use Rattle.counting.proofs.Counts.{none_yet, here_known, there, next_tree, next_done, all_done, leaf_done, inner_tree, inner_due, inner_done}
use Rattle.counting.proofs.+count_edges_count_node.Goals as goal
use Rattle.counting.proofs.+count_edges_count_node.Goals.{count_edges-After-count_node}

pub count_edges-len-last-requires : goal.count_edges-len-last-requires
count_edges-len-last-requires t c = let p = c.requires in (here_known p.holds p.arena).0

pub count_edges-loop-i-init : goal.count_edges-loop-i-init
count_edges-loop-i-init t c = λ hd ns K a. none_yet K a

pub count_edges-edge-child-requires : goal.count_edges-edge-child-requires
count_edges-edge-child-requires t c =
    let p = c.requires in
    let k = here_known p.holds p.arena in
    (there p.holds p.arena (c.loop-i.invariant p.head p.nodes p.holds p.arena), omega (arith, c.loop-i-test.true, c.len-last.ensures, k.1, k.2))

pub count_edges-count_node-requires : goal.count_edges-count_node-requires
count_edges-count_node-requires t c =
    let p = c.requires in
    let u = c.loop-i.invariant p.head p.nodes p.holds p.arena in
    (omega arith, record { head = _; nodes = u.nodes; arena = u.arena; holds = next_tree p.holds p.arena u (omega (arith, c.loop-i-test.true, c.len-last.ensures, (here_known p.holds p.arena).1)) _ c.edge-child.ensures })

-- one child more
counted : {t : _} (c : count_edges-After-count_node t) → (hd : List ℕ) (ns : List NodeVal) (K : TreeIn ns c.args.n.0 (suc c.args.below)) → Arena c.args.a.now hd ns → Upto c.count_node.new.a hd ns c.args.below K.tree (c.loop-i.i + 1)
counted c hd ns K a = next_done K a (c.loop-i.invariant hd ns K a) (omega (arith, c.loop-i-test.true, c.len-last.ensures, (here_known K a).1)) _ c.edge-child.ensures c.count_node.ensures

pub count_edges-loop-i-preserved : goal.count_edges-loop-i-preserved
count_edges-loop-i-preserved t c = counted (goal.at.count_edges-loop-i-preserved t c).After-count_node

pub count_edges-returns-2 : goal.count_edges-returns-2
count_edges-returns-2 t c = λ hd ns K a. all_done K a (counted (goal.at.count_edges-returns-2 t c).After-count_node hd ns K a) (omega (arith, c.len-last.ensures, (here_known K a).1))

pub count_node-returns-then-below-eq0 : goal.count_node-returns-then-below-eq0
count_node-returns-then-below-eq0 t c = λ hd ns K a. leaf_done a _ c.if-below-eq0.true K c.count_leaf.ensures

pub count_node-count_edges-requires : goal.count_node-count_edges-requires
count_node-count_edges-requires t c =
    let q = c.requires in
    let z = c.if-below-eq0.false in
    (omega arith, record { head = _; nodes = q.nodes; arena = q.arena; holds = inner_tree q.arena _ z q.holds })

pub count_node-set_right-requires : goal.count_node-set_right-requires
count_node-set_right-requires t c =
    let q = c.requires in
    inner_due q.arena _ c.if-below-eq0.false q.holds c.count_edges.ensures

pub count_node-returns : goal.count_node-returns
count_node-returns t c = λ hd ns K a. inner_done a _ c.if-below-eq0.false K c.count_edges.ensures c.set_right.ensures
