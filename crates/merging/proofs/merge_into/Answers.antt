use Rattle.std.proofs.Common.{arith, ap, sym, ◌∙◌, length, List, []}
use Rattle.model.specs.Tree.{Pair}
use Rattle.model.specs.Promise.{laid}
use Rattle.model.proofs.Forward.{forward}
use Rattle.listing.proofs.Sofar.{laid_none}
use Rattle.merging.proofs.Merges.{going_start, one_more, in_both, counted_all, written}
use Rattle.merging.proofs.merge_into.Goals as goal

pub loop-n-init : goal.loop-n-init
loop-n-init c = λ s t o u. ([], going_start (c.first-x.ensures s o) (c.first-y.ensures t u), laid_none _)

pub merge_next-requires : goal.merge_next-requires
merge_next-requires c =
    let o = forward c.args.a.now c.requires.0 in
    let u = forward c.args.b.now c.requires.1 in
    in_both (c.loop-n.invariant _ _ o u).1 o u

pub loop-n-preserved : goal.loop-n-preserved
loop-n-preserved c = λ s t o u.
    let w = c.loop-n.invariant s t o u in
    let z = c.in-Some.ensures s t o u w.1.first w.1.second w.1.first_is w.1.second_is in
    (_, one_more w.1 z, written w.1 z c.args.out.now c.loop-n.out w.2 (omega arith))

pub returns : goal.returns
returns c = λ s t o u.
    let w = c.loop-n.invariant s t o u in
    let e = counted_all w.1 o u (omega (arith, c.requires.2)) in
    (w.2 ∙ ap (λ (l : List Pair). laid l c.args.out.now) (sym e), omega (arith, ap length e, w.1.count))
