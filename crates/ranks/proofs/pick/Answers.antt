use Rattle.std.proofs.Common.{◌≡◌, ◌<◌, length, arith, refl, lit<}
use Rattle.model.specs.Layout.{pairs_word}
use Rattle.model.specs.Tree.{flat}
use Rattle.model.specs.Map.{nth}
use Rattle.model.specs.State.{list}
use Rattle.model.proofs.Backward.{header_is}
use Rattle.model.proofs.Forward.{forward}
use Rattle.model.proofs.Standing.{root_at}
use Rattle.ranks.proofs.Lefts.{picked_leaf, node_ready, picked_inner, inner_edge, seeking_on}
use Rattle.ranks.proofs.pick.Goals as goal

pub loop-height-init : goal.loop-height-init
loop-height-init c = λ s o. rw (c.root-node.ensures, c.height-height.ensures)
    (let r = root_at o (λ h d t. (nth c.args.rank (list s) ≡ nth c.args.rank (flat h t)) × (c.args.rank < length (flat h t))) (refl, omega (arith, c.requires.1, header_is o pairs_word (lit< tt))) in record { place = r.0; same = r.1.0; more = r.1.1 })

pub pass_edges-requires : goal.pass_edges-requires
pass_edges-requires c =
    let o = forward c.args.a.now c.requires.0 in
    record { state = _; holds = o; there = node_ready _ (λ e. omega (arith, e, c.loop-height-test.true)) (c.loop-height.invariant _ o) }

pub returns-in-Kv : goal.returns-in-Kv
returns-in-Kv c = λ s o. picked_inner _ (λ e. omega (arith, e, c.loop-height-test.true)) (c.loop-height.invariant s o) _ (c.in-Kv.ensures s o)

pub edge-node-requires : goal.edge-node-requires
edge-node-requires c = let o = forward c.args.a.now c.requires.0 in inner_edge o _ (λ e. omega (arith, e, c.loop-height-test.true)) (c.loop-height.invariant _ o) _ _ (c.in-Edge.ensures _ o)

pub loop-height-preserved : goal.loop-height-preserved
loop-height-preserved c = λ s o. seeking_on o _ (λ e. omega (arith, e, c.loop-height-test.true)) (c.loop-height.invariant s o) _ _ (c.in-Edge.ensures s o) _ c.edge-node.ensures

pub returns : goal.returns
returns c = λ s o. picked_leaf _ (omega (arith, c.loop-height-test.false)) (c.loop-height.invariant s o)
