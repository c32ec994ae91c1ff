use Rattle.std.proofs.Common.{◌≡◌, ◌+◌, ◌-◌, ◌∙◌, false, arith}
use Rattle.model.proofs.Forks.{last_stops}
use Rattle.model.proofs.Standing.{stands, length_at}
use Rattle.navigate.proofs.Steps.{dive_within, dive_ended, dive_below, dive_on, dive_left}
use Rattle.navigate.proofs.next_back_leaf_edge.Goals as goal
use Rattle.navigate.proofs.next_back_leaf_edge.Goals.{In-loop}

pub loop-init : goal.loop-init
loop-init c = λ s o y. let e : c.args.kv.height - 0 ≡ c.args.kv.height = omega arith in rw e (dive_left (λ k. false) c.args.kv y)

pub edge-node-requires : goal.edge-node-requires
edge-node-requires c = dive_within _ _ c.requires.holds _ _ _ (c.loop.invariant _ c.requires.holds c.requires.there)

-- there are levels below
more : (c : In-loop) → c.args.kv.height - c.loop.counter ≡ 0 → ⊥
more c e = omega (arith, e, c.loop-test.true)

pub len-requires : goal.len-requires
len-requires c =
    let q = c.requires in
    (stands q.holds (dive_below _ _ q.holds _ _ _ (c.loop.invariant _ q.holds q.there) (more (goal.at.len-requires c).In-loop) _ c.edge-node.ensures)).within

pub loop-preserved : goal.loop-preserved
loop-preserved c = λ s o y.
    let e : c.args.kv.height - (c.loop.counter + 1) ≡ c.args.kv.height - c.loop.counter - 1 = omega arith in
    rw e (dive_on _ _ o _ _ _ (c.loop.invariant s o y) (more (goal.at.loop-preserved c).In-loop) _ c.edge-node.ensures _
    (λ p. let e = c.len.ensures ∙ length_at (stands o p) in (omega arith, last_stops _ p.tree.rest e)))

pub returns : goal.returns
returns c = λ s o y. dive_ended _ _ _ _ _ (c.loop.invariant s o y) (omega (arith, c.loop-test.false))
