use Rattle.std.proofs.Common.{◌≡◌, ◌+◌, ◌-◌, refl, arith}
use Rattle.model.specs.Layout.{header, height_word}
use Rattle.model.specs.Tree.{top}
use Rattle.model.specs.Search.{sink}
use Rattle.model.specs.Range.{starts}
use Rattle.model.proofs.Forward.{forward}
use Rattle.model.proofs.Standing.{root_at}
use Rattle.search.proofs.Descents.{at_within, keys_few, keys_rise, low_few}
use Rattle.navigate.proofs.Lowers.{lowered, lowering_on}
use Rattle.navigate.proofs.lower_leaf_edge.Goals as goal

pub loop-init : goal.loop-init
loop-init c = λ s o.
    let e : c.height-end.result - 0 ≡ header c.args.a.now height_word = omega (arith, c.height-end.ensures) in
    rw (c.root-node.ensures, e)
    (let r = root_at o (λ h d t. sink (starts c.args.start) s.whole.height top s.whole.root ≡ sink (starts c.args.start) h d t) refl in record { place = r.0; same = r.1 })

pub keys-requires : goal.keys-requires
keys-requires c = let o = forward c.args.a.now c.requires in at_within o (c.loop.invariant _ o).place

pub find_lower_bound_index-below-requires : goal.find_lower_bound_index-below-requires
find_lower_bound_index-below-requires c = let o = forward c.args.a.now c.requires in keys_rise o (c.loop.invariant _ o).place c.keys.result.now c.keys.ensures

pub edge-node-requires : goal.edge-node-requires
edge-node-requires c =
    let o = forward c.args.a.now c.requires in
    let y = c.loop.invariant _ o in
    ((at_within o y.place).0, omega (arith, keys_few o y.place c.keys.result.now c.keys.ensures, low_few c.loop.bound c.keys.result.now _ c.find_lower_bound_index-below.ensures))

pub loop-preserved : goal.loop-preserved
loop-preserved c = λ s o.
    let e : c.height-end.result - (c.loop.counter + 1) ≡ c.height-end.result - c.loop.counter - 1 = omega arith in
    rw e (lowering_on _ o _ _ c.keys.result.now c.keys.ensures _ c.find_lower_bound_index-below.ensures _ (c.loop.invariant s o) (λ z. omega (arith, z, c.loop-test.true)) _ c.edge-node.ensures)

pub keys-requires-2 : goal.keys-requires-2
keys-requires-2 c = let o = forward c.args.a.now c.requires in at_within o (c.loop.invariant _ o).place

pub find_lower_bound_index-requires : goal.find_lower_bound_index-requires
find_lower_bound_index-requires c = let o = forward c.args.a.now c.requires in keys_rise o (c.loop.invariant _ o).place c.keys-2.result.now c.keys-2.ensures

pub returns : goal.returns
returns c = λ s o. lowered _ o _ _ c.keys-2.result.now c.keys-2.ensures _ c.find_lower_bound_index.ensures _ (c.loop.invariant s o) (omega (arith, c.loop-test.false))
