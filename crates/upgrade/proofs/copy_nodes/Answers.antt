-- `upgrade::copy_nodes` meets its contract.
-- Assumes nothing.
use Rattle.std.proofs.Common.{◌+◌, ◌-◌, ◌<◌, arith, ◌≡◌, refl, ◌∙◌, length}
use Rattle.model.specs.Layout.{node_size, total_word, base}
use Rattle.upgrade.proofs.Copied.{node_long, node_turn, nodes_begin, nodes_done}
use Rattle.upgrade.proofs.copy_nodes.Goals as goal

pub loop-i-init : goal.loop-i-init
loop-i-init c = let x = c.args in (refl, nodes_begin x.to.now x.from.now x.count)

pub loop-i-preserved : goal.loop-i-preserved
loop-i-preserved c =
    let l = c in
    let x = l in
    let b = c.node_base-b in
    let w = c.copy_node in
    let v = l.loop-i.invariant in
    let more : l.loop-i.i < x.args.count = omega arith in
    let k : length l.loop-i.to ≡ base x.args.count = v.0 ∙ x.requires.0.long_is in (
      node_long l.loop-i.to x.args.from.now w.new.to x.args.count l.loop-i.i b.result (b.result + node_size) (b.result - l.loop-i.i) (b.result - l.loop-i.i + total_word) b.ensures refl refl refl more k x.requires.1.long_is w.ensures ∙ v.0,
      node_turn l.loop-i.to x.args.from.now w.new.to x.args.count l.loop-i.i b.result (b.result + node_size) (b.result - l.loop-i.i) (b.result - l.loop-i.i + total_word) b.ensures refl refl refl more k x.requires.1.long_is w.ensures ∙ v.1,
    )

pub shape_of-to : goal.shape_of-to
shape_of-to c = c.loop-i.invariant.0

pub returns : goal.returns
returns c =
    let l = c in
    let x = l in
    nodes_done l.loop-i.to x.args.from.now _ x.args.count l.loop-i.i (omega arith) (l.loop-i.invariant.0 ∙ x.requires.0.long_is) l.loop-i.invariant.1
