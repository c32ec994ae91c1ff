use Rattle.std.proofs.Common.{◌≡◌, ◌+◌, ◌-◌, true, arith}
use Rattle.model.specs.Range.{keys_of}
use Rattle.model.proofs.Forks.{stops_all}
use Rattle.navigate.proofs.Pairs.{kv_within}
use Rattle.navigate.proofs.Steps.{dive_within, dive_ended, dive_on, dive_right}
use Rattle.navigate.proofs.next_leaf_edge.Goals as goal

pub overflow_add-at : goal.overflow_add-at
overflow_add-at c = omega (arith, (kv_within c.args.kv c.requires.there c.requires.holds).1)

pub loop-init : goal.loop-init
loop-init c = λ s o y. let e : c.args.kv.height - 0 ≡ c.args.kv.height = omega arith in rw e (dive_right (λ k. true) c.args.kv y)

pub edge-node-requires : goal.edge-node-requires
edge-node-requires c = dive_within _ _ c.requires.holds _ _ _ (c.loop.invariant _ c.requires.holds c.requires.there)

pub loop-preserved : goal.loop-preserved
loop-preserved c = λ s o y.
    let e : c.args.kv.height - (c.loop.counter + 1) ≡ c.args.kv.height - c.loop.counter - 1 = omega arith in
    rw e (dive_on _ _ o _ _ _ (c.loop.invariant s o y) (λ z. omega (arith, z, c.loop-test.true)) _ c.edge-node.ensures 0 (λ p. (omega arith, stops_all (keys_of p.tree.rest))))

pub returns : goal.returns
returns c = λ s o y. dive_ended _ _ _ _ _ (c.loop.invariant s o y) (omega (arith, c.loop-test.false))
