-- `format::write_chain` meets its contract: what is written so far, with the nodes still to come, is all of it.
-- Assumes nothing.
use Rattle.std.proofs.Common.{◌≡◌, refl, ◌∙◌, ◌+◌, ◌<◌, length, arith}
use Rattle.format.proofs.Formatted.{turn, chain_done}
use Rattle.model.specs.Layout.{base, node_size}
use Rattle.format.proofs.write_chain.Goals as goal

pub loop-i-init : goal.loop-i-init
loop-i-init c = refl

pub loop-i-preserved : goal.loop-i-preserved
loop-i-preserved c =
    let l = c in
    let x = l in
    let b = c.node_base-b in
    let w = c.write_node in
    let n = c.next in
    let k : length l.loop-i.a ≡ base x.args.count = l.loop-i.auto.a ∙ x.requires.long_is in
    let more : l.loop-i.i < x.args.count = omega arith in
    turn l.loop-i.a w.new.s x.args.count l.loop-i.i b.result (b.result + node_size) n.result b.ensures refl more k w.ensures n.ensures ∙ l.loop-i.invariant

pub returns : goal.returns
returns c =
    let l = c in
    let x = l in
    chain_done l.loop-i.a _ x.args.count l.loop-i.i (omega arith) (l.loop-i.auto.a ∙ x.requires.long_is) l.loop-i.invariant
