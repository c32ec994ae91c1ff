use Rattle.std.proofs.Common.{◌≡◌, ℕ, suc, ◌+◌, arith, sym, ap, ◌∙◌, length}
use Rattle.ranks.proofs.Lefts.{left_sum, edge_in, child_at, sum_more, sum_few, left_is}
use Rattle.ranks.proofs.left_of.Goals as goal

pub edge-requires : goal.edge-requires
edge-requires c = let q = c.requires in edge_in q.holds q.there.place c.loop-i.i (omega (arith, q.there.inside))

pub total-sum-requires : goal.total-sum-requires
total-sum-requires c = let q = c.requires in (child_at q.holds q.there.place c.loop-i.i c.edge.result.0 (omega (arith, q.there.inside)) c.edge.ensures).0

pub overflow_add-sum : goal.overflow_add-sum
overflow_add-sum c =
    let q = c.requires in
    let e = q.there in
    omega (arith, c.loop-i.invariant q.state q.holds e.height e.place e.inside, c.total-sum.ensures, sum_more q.holds e.place c.loop-i.i c.edge.result.0 (omega (arith, e.inside)) c.edge.ensures, sum_few q.holds e.place (c.loop-i.i + 1), e.inside, (edge_in q.holds e.place (length e.place.tree.rest) (omega arith)).1)

pub loop-i-preserved : goal.loop-i-preserved
loop-i-preserved c = λ s o h p u. omega (arith, c.loop-i.invariant s o h p u, c.total-sum.ensures, sum_more o p c.loop-i.i c.edge.result.0 (omega (arith, u)) c.edge.ensures)

pub returns : goal.returns
returns c = λ s o h p u. c.loop-i.invariant s o h p u ∙ ap (λ (i : ℕ). c.args.at.0 + left_sum (suc h) p.tree i) (let z : c.loop-i.i ≡ c.args.at.0 = omega arith in z) ∙ sym (left_is (suc h) p.tree c.args.at.0 u)
