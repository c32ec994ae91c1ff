-- `checker::check_node`, `checker::check_child` and `checker::check_edges`, which call one another, meet their contracts.
-- Assumes nothing.
use Rattle.std.proofs.Common.{arith, refl, None, Some}
use Rattle.inspect.specs.Tests.{reached}
use Rattle.inspect.proofs.Decisions.{refuted}
use Rattle.checker.proofs.Nodes.{some_nodes, not_own, shape_leads, edges_none, edge_next, key_next, edge_stop_to, key_stop, own_said, leaf_said, inner_said}
use Rattle.checker.proofs.+check_edges_check_node.Goals as goal
use Rattle.checker.proofs.+check_edges_check_node.Goals.{check_node-then-before-eq0-via-then-before-eq0, check_node-then-before-eq0-via-else-before-eq0+then-not-own}

pub check_edges-loop-i-init : goal.check_edges-loop-i-init
check_edges-loop-i-init g t c = (omega arith, edges_none g.F.Format.layout c.args.arena.now.words.now c.args.arena.now.count c.args.below c.args.node.0 c.args.before)

pub check_edges-returns-in_err-w : goal.check_edges-returns-in_err-w
check_edges-returns-in_err-w g t c =
    let x = c.args in
    let l = c.loop-i in
    let w = x.arena.now.words.now in
    let count = x.arena.now.count in
    rw c.from_residual.ensures (edge_stop_to g.F.Format.layout w count x.below x.node.0 l.i x.n x.before l.invariant.0
    (edge_next g.F.Format.layout w count x.below x.node.0 l.i (reached c.child.result) x.before l.w None c.child.ensures l.invariant.1 c.in_err-w.ensures))

pub check_edges-returns-in_err-w-2 : goal.check_edges-returns-in_err-w-2
check_edges-returns-in_err-w-2 g t c =
    let x = c.args in
    let l = c.loop-i in
    let w = x.arena.now.words.now in
    let count = x.arena.now.count in
    let e = edge_next g.F.Format.layout w count x.below x.node.0 l.i (reached c.child.result) x.before l.w (Some c.in_ok-w.w) c.child.ensures l.invariant.1 c.in_ok-w.ensures in
    rw c.from_residual-in_err-w-2.ensures (key_stop g.F.Format.layout w count x.below x.node.0 l.i x.n x.before (omega (arith, l.invariant.0, c.if-i-n.false))
    (key_next g.F.Format.layout w count x.below x.node.0 l.i c.key.result x.before c.in_ok-w.w None c.key.ensures e c.in_err-w-2.ensures))

pub check_edges-loop-i-preserved : goal.check_edges-loop-i-preserved
check_edges-loop-i-preserved g t c =
    let x = c.args in
    let l = c.loop-i in
    let w = x.arena.now.words.now in
    let count = x.arena.now.count in
    let e = edge_next g.F.Format.layout w count x.below x.node.0 l.i (reached c.child.result) x.before l.w (Some c.in_ok-w.w) c.child.ensures l.invariant.1 c.in_ok-w.ensures in
    (omega (arith, l.invariant.0, c.if-i-n.false), key_next g.F.Format.layout w count x.below x.node.0 l.i c.key.result x.before c.in_ok-w.w (Some c.in_ok-w-2.w) c.key.ensures e c.in_ok-w-2.ensures)

pub check_edges-returns-then-i-n : goal.check_edges-returns-then-i-n
check_edges-returns-then-i-n g t c =
    let x = c.args in
    let l = c.loop-i in
    rw c.if-i-n.true at (edge_next g.F.Format.layout x.arena.now.words.now x.arena.now.count x.below x.node.0 l.i (reached c.child.result) x.before l.w (Some c.in_ok-w.w) c.child.ensures l.invariant.1 c.in_ok-w.ensures)

pub check_node-returns-then-before-eq0 : goal.check_node-returns-then-before-eq0
check_node-returns-then-before-eq0 g t c =
    λ p.
    let x = c.args in
    let r = reached x.v in
    elim c.then-before-eq0.branch [
      | check_node-then-before-eq0-via-then-before-eq0 w ↦ omega (arith, p.nodes, some_nodes g.F.Format.layout x.arena.now.words.now x.arena.now.count r, w.if-before-eq0.true)
      | check_node-then-before-eq0-via-else-before-eq0+then-not-own w ↦
          not_own g.F.Format.layout x.arena.now.words.now x.arena.now.count r w.own.result w.own.ensures w.if-not-own.true p.holds
    ]

pub check_node-returns-in_err-check_keys : goal.check_node-returns-in_err-check_keys
check_node-returns-in_err-check_keys g t c =
    let x = c.args in
    let r = reached x.v in
    let w = x.arena.now.words.now in
    let count = x.arena.now.count in
    rw c.from_residual.ensures (leaf_said g.F.Format.layout w count r.fewest r.node r.parent r.place _ x.before _ None None r.below c.len-n.result c.if-v-eq0.true c.len-n.ensures refl
    (own_said g.F.Format.layout w count r x.before c.own.result c.own.ensures c.if-not-own.false (omega (arith, c.if-before-eq0.false))) c.in_err-check_keys.ensures refl)

pub check_node-returns-then-v-eq0 : goal.check_node-returns-then-v-eq0
check_node-returns-then-v-eq0 g t c =
    let x = c.args in
    let r = reached x.v in
    let w = x.arena.now.words.now in
    let count = x.arena.now.count in
    leaf_said g.F.Format.layout w count r.fewest r.node r.parent r.place _ x.before _ (Some c.in_ok-check_keys.field-0) c.told.result r.below c.len-n.result c.if-v-eq0.true c.len-n.ensures refl
    (own_said g.F.Format.layout w count r x.before c.own.result c.own.ensures c.if-not-own.false (omega (arith, c.if-before-eq0.false))) c.in_ok-check_keys.ensures c.told.ensures

pub check_node-returns-then-not-lead : goal.check_node-returns-then-not-lead
check_node-returns-then-not-lead g t c =
    λ p.
    let x = c.args in
    let r = reached x.v in
    refuted c.lead.result c.lead.ensures c.if-not-lead.true
    (shape_leads g.F.Format.layout x.arena.now.words.now x.arena.now.count r.below r.fewest r.node r.parent r.place c.len-n.result c.if-v-eq0.false c.len-n.ensures p.holds)

pub check_node-returns-in_err-check_edges : goal.check_node-returns-in_err-check_edges
check_node-returns-in_err-check_edges g t c =
    let x = c.args in
    let r = reached x.v in
    let w = x.arena.now.words.now in
    let count = x.arena.now.count in
    rw c.from_residual-in_err-check_edges.ensures (inner_said g.F.Format.layout w count r.fewest r.node r.parent r.place _ x.before _ None None r.below c.len-n.result c.if-v-eq0.false c.len-n.ensures refl
    (own_said g.F.Format.layout w count r x.before c.own.result c.own.ensures c.if-not-own.false (omega (arith, c.if-before-eq0.false))) c.in_err-check_edges.ensures refl)

pub check_node-returns : goal.check_node-returns
check_node-returns g t c =
    let x = c.args in
    let r = reached x.v in
    let w = x.arena.now.words.now in
    let count = x.arena.now.count in
    inner_said g.F.Format.layout w count r.fewest r.node r.parent r.place _ x.before _ (Some c.in_ok-check_edges.field-0) c.told-2.result r.below c.len-n.result c.if-v-eq0.false c.len-n.ensures refl
    (own_said g.F.Format.layout w count r x.before c.own.result c.own.ensures c.if-not-own.false (omega (arith, c.if-before-eq0.false))) c.in_ok-check_edges.ensures c.told-2.ensures
