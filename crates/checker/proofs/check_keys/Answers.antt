-- `checker::check_keys` meets its contract.
-- Assumes nothing.
use Rattle.std.proofs.Common.{arith, ◌≡◌, None, Some}
use Rattle.checker.proofs.Nodes.{leaf_none, leaf_gap, leaf_key, leaf_refused}
use Rattle.checker.proofs.check_keys.Goals as goal

pub loop-i-init : goal.loop-i-init
loop-i-init g c = leaf_none g.F.Format.layout c.args.arena.now.words.now c.args.node.0 c.args.before

pub returns-in_err-w : goal.returns-in_err-w
returns-in_err-w g c =
    let x = c.args in
    let l = c.loop-i in
    rw c.from_residual.ensures (leaf_refused g.F.Format.layout x.arena.now.words.now x.node.0 l.i x.n x.before (omega arith)
    (leaf_key g.F.Format.layout x.arena.now.words.now x.node.0 l.i c.key.result x.before l.w None c.key.ensures l.invariant c.in_err-w.ensures))

pub loop-i-preserved : goal.loop-i-preserved
loop-i-preserved g c =
    let x = c.args in
    let l = c.loop-i in
    leaf_key g.F.Format.layout x.arena.now.words.now x.node.0 l.i c.key.result x.before l.w (Some c.in_ok-w.w) c.key.ensures l.invariant c.in_ok-w.ensures

pub returns : goal.returns
returns g c =
    let x = c.args in
    let e : c.loop-i.i ≡ x.n = omega arith in
    leaf_gap g.F.Format.layout x.arena.now.words.now x.node.0 x.n x.before c.loop-i.w (rw e at c.loop-i.invariant)
