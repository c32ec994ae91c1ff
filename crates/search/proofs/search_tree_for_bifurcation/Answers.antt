use Rattle.std.proofs.Common.{◌≡◌, refl, arith}
use Rattle.model.specs.Range.{fork, fork_of}
use Rattle.model.specs.Lists.{Rises}
use Rattle.model.proofs.Forward.{forward}
use Rattle.model.proofs.Standing.{root_at}
use Rattle.search.proofs.Descents.{at_within, keys_few, keys_rise, low_few, parting, coinciding, forking_on}
use Rattle.search.proofs.search_tree_for_bifurcation.Goals as goal
use Rattle.search.proofs.search_tree_for_bifurcation.Goals.{After-keys-part}

pub loop-node-init : goal.loop-node-init
loop-node-init c =
    let x = c.args in
    λ s o. rw (c.root-node.ensures, c.height-height.ensures) (let r = root_at o (λ h d t. fork_of x.range s.whole ≡ fork x.range h d t) refl in record { place = r.0; same = r.1 })

pub keys-part-requires : goal.keys-part-requires
keys-part-requires c = let x = c in let o = forward x.args.a.now x.requires in at_within o (c.loop-node.invariant _ o).place

-- the keys of a node rise
rises : (c : After-keys-part) → Rises c.keys-part.result.now
rises c =
    let x = c in
    let o = forward x.args.a.now x.requires in
    keys_rise o (c.loop-node.invariant _ o).place c.keys-part.result.now c.keys-part.ensures

pub find_lower_bound_index-start-requires : goal.find_lower_bound_index-start-requires
find_lower_bound_index-start-requires c = rises c

pub find_upper_bound_index-end-requires : goal.find_upper_bound_index-end-requires
find_upper_bound_index-end-requires c = (low_few c.loop-node.bounds.start c.keys-part.result.now c.find_lower_bound_index-start.result c.find_lower_bound_index-start.ensures, rises (goal.at.find_upper_bound_index-end-requires c).After-keys-part)

pub returns-then-lower-upper : goal.returns-then-lower-upper
returns-then-lower-upper c = λ s o. parting o c.args.range c.loop-node.bounds _ c.keys-part.result.now c.keys-part.ensures c.find_lower_bound_index-start.result c.find_upper_bound_index-end.result c.find_lower_bound_index-start.ensures c.find_upper_bound_index-end.ensures _ (c.loop-node.invariant s o) c.if-lower-upper.true

pub returns-then-height-eq0 : goal.returns-then-height-eq0
returns-then-height-eq0 c = λ s o. coinciding o c.args.range c.loop-node.bounds _ c.keys-part.result.now c.keys-part.ensures c.find_lower_bound_index-start.result c.find_upper_bound_index-end.result c.find_lower_bound_index-start.ensures c.find_upper_bound_index-end.ensures _ (c.loop-node.invariant s o) c.if-height-eq0.true (omega (arith, c.if-lower-upper.false))

pub edge-node-requires : goal.edge-node-requires
edge-node-requires c =
    let x = c in
    let o = forward x.args.a.now x.requires in
    let y = c.loop-node.invariant _ o in
    let ks = c.keys-part in
    let d = c.find_lower_bound_index-start in
    ((at_within o y.place).0, omega (arith, keys_few o y.place ks.result.now ks.ensures, low_few c.loop-node.bounds.start ks.result.now d.result d.ensures))

pub loop-node-preserved : goal.loop-node-preserved
loop-node-preserved c = λ s o. forking_on o c.args.range c.loop-node.bounds _ c.keys-part.result.now c.keys-part.ensures c.find_lower_bound_index-start.result c.find_upper_bound_index-end.result c.find_lower_bound_index-start.ensures c.find_upper_bound_index-end.ensures _ (c.loop-node.invariant s o) c.if-height-eq0.false (omega (arith, c.if-lower-upper.false)) c.edge-node.result.0 c.edge-node.ensures
