use Rattle.std.proofs.Common.{◌≡◌, ℕ, suc, arith, subst, ◌∙◌, length}
use Rattle.model.specs.Tree.{flat}
use Rattle.model.specs.Edges.{hole_at}
use Rattle.model.proofs.Standing.{stands, length_at}
use Rattle.ranks.specs.Picks.{Onward}
use Rattle.ranks.proofs.Lefts.{edge_in, child_at, coming_in, coming_down, coming_last, coming_here, coming_on}
use Rattle.ranks.proofs.pass_edges.Goals as goal

pub len-n-requires : goal.len-n-requires
len-n-requires c = let q = c.requires in (stands q.holds q.there.place).within

pub loop-i-init : goal.loop-i-init
loop-i-init c = λ s o h p u. coming_in (suc h) p.tree _ u

pub edge-requires : goal.edge-requires
edge-requires c = let q = c.requires in let e = q.there in edge_in q.holds e.place c.loop-i.i (c.loop-i.invariant q.state q.holds e.height e.place e.more).inside

pub total-below-requires : goal.total-below-requires
total-below-requires c =
    let q = c.requires in
    let e = q.there in
    (child_at q.holds e.place c.loop-i.i c.edge.result.0 (c.loop-i.invariant q.state q.holds e.height e.place e.more).inside c.edge.ensures).0

pub returns-then-rest-below : goal.returns-then-rest-below
returns-then-rest-below c = λ s o h p u.
    let C = c.loop-i.invariant s o h p u in
    coming_down (suc h) p.tree _ _ _ C (omega (arith, c.if-rest-below.true, c.total-below.ensures, (child_at o p c.loop-i.i c.edge.result.0 C.inside c.edge.ensures).1))

pub returns-then-rest-eq0 : goal.returns-then-rest-eq0
returns-then-rest-eq0 c = λ s o h p u.
    let C = c.loop-i.invariant s o h p u in
    let k = c.total-below.ensures ∙ (child_at o p c.loop-i.i c.edge.result.0 C.inside c.edge.ensures).1 in
    coming_here (suc h) p.tree _ _ _ C (omega (arith, c.if-rest-below.false, k)) (omega (arith, c.if-rest-eq0.true, k))

pub loop-i-preserved : goal.loop-i-preserved
loop-i-preserved c = λ s o h p u.
    let C = c.loop-i.invariant s o h p u in
    let k : c.total-below.result ≡ length (flat (suc h) (hole_at p.tree c.loop-i.i)) = c.total-below.ensures ∙ (child_at o p c.loop-i.i c.edge.result.0 C.inside c.edge.ensures).1 in
    rw k (coming_on (suc h) p.tree _ _ _ C (omega (arith, c.if-rest-below.false, k)) (λ z. c.if-rest-eq0.false (omega (arith, z, k))))

pub returns : goal.returns
returns c = λ s o h p u.
    let e : c.loop-i.i ≡ c.len-n.result = omega arith in
    subst (λ (i : ℕ). Onward (suc h) p.tree c.args.rank i c.loop-i.rest) e (coming_last (suc h) p.tree _ _ _ (c.loop-i.invariant s o h p u) (omega (arith, c.len-n.ensures, length_at (stands o p))))
