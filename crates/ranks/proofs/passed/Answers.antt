use Rattle.std.proofs.Common.{◌≡◌, ◌+◌, ◌-◌, length, refl, arith}
use Rattle.model.specs.Layout.{header, height_word}
use Rattle.model.specs.Tree.{top, before}
use Rattle.model.specs.Search.{sink}
use Rattle.model.specs.Range.{starts}
use Rattle.model.proofs.Forward.{forward}
use Rattle.model.proofs.Standing.{root_at}
use Rattle.search.proofs.Descents.{at_within, keys_rise}
use Rattle.ranks.proofs.Lefts.{sunk, sinking_on, edge_ready, low_few, sink_few}
use Rattle.ranks.proofs.passed.Goals as goal
use Rattle.ranks.proofs.passed.Goals.{In-loop}

pub loop-init : goal.loop-init
loop-init c = λ s o.
    let e : c.height-end.result - 0 ≡ header c.args.a.now height_word = omega (arith, c.height-end.ensures) in
    rw (c.root-node.ensures, e)
    (let r = root_at o (λ h d t. (sink (starts c.args.start) s.whole.height top s.whole.root ≡ sink (starts c.args.start) h d t) × (0 ≡ length (before d))) (refl, refl) in record { place = r.0; same = r.1.0; sum_is = r.1.1 })

pub keys-requires : goal.keys-requires
keys-requires c = let o = forward c.args.a.now c.requires in at_within o (c.loop.invariant _ o).place

pub find_lower_bound_index-below-requires : goal.find_lower_bound_index-below-requires
find_lower_bound_index-below-requires c = let o = forward c.args.a.now c.requires in keys_rise o (c.loop.invariant _ o).place c.keys.result.now c.keys.ensures

-- there are levels below
more : (c : In-loop) → c.height-end.result - c.loop.counter ≡ 0 → ⊥
more c e = omega (arith, e, c.loop-test.true)

pub left_of-sum-requires : goal.left_of-sum-requires
left_of-sum-requires c =
    let o = forward c.args.a.now c.requires in
    record { state = _; holds = o; there = edge_ready _ o _ _ _ c.keys.result.now c.keys.ensures _ c.find_lower_bound_index-below.ensures _ (c.loop.invariant _ o) (more (goal.at.left_of-sum-requires c).In-loop) }

pub overflow_add-sum : goal.overflow_add-sum
overflow_add-sum c =
    let o = forward c.args.a.now c.requires in
    omega (arith, sink_few _ o _ _ _ c.keys.result.now c.keys.ensures _ c.find_lower_bound_index-below.ensures _ (c.loop.invariant _ o) (more (goal.at.overflow_add-sum c).In-loop) _ (c.left_of-sum.ensures _ o))

pub edge-node-requires : goal.edge-node-requires
edge-node-requires c =
    let o = forward c.args.a.now c.requires in
    let y = c.loop.invariant _ o in
    ((at_within o y.place).0, (low_few _ o _ _ _ c.keys.result.now c.keys.ensures _ c.find_lower_bound_index-below.ensures _ y).1)

pub loop-preserved : goal.loop-preserved
loop-preserved c = λ s o.
    let e : c.height-end.result - (c.loop.counter + 1) ≡ c.height-end.result - c.loop.counter - 1 = omega arith in
    rw e (sinking_on _ o _ _ _ c.keys.result.now c.keys.ensures _ c.find_lower_bound_index-below.ensures _ (c.loop.invariant s o) (more (goal.at.loop-preserved c).In-loop) _ (c.left_of-sum.ensures s o) _ c.edge-node.ensures)

pub keys-requires-2 : goal.keys-requires-2
keys-requires-2 c = let o = forward c.args.a.now c.requires in at_within o (c.loop.invariant _ o).place

pub find_lower_bound_index-requires : goal.find_lower_bound_index-requires
find_lower_bound_index-requires c = let o = forward c.args.a.now c.requires in keys_rise o (c.loop.invariant _ o).place c.keys-2.result.now c.keys-2.ensures

pub overflow_add-result : goal.overflow_add-result
overflow_add-result c = let o = forward c.args.a.now c.requires in omega (arith, low_few _ o _ _ _ c.keys-2.result.now c.keys-2.ensures _ c.find_lower_bound_index.ensures _ (c.loop.invariant _ o))

pub returns : goal.returns
returns c = λ s o. sunk _ o _ _ _ c.keys-2.result.now c.keys-2.ensures _ c.find_lower_bound_index.ensures _ (c.loop.invariant s o) (omega (arith, c.loop-test.false))
