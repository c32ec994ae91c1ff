use Rattle.std.proofs.Common.{arith, ap, length, []}
use Rattle.model.proofs.Forward.{forward}
use Rattle.merging.proofs.Merges.{going_start, one_more, in_both, counted_all, pairs_few}
use Rattle.merging.proofs.merge_count.Goals as goal

pub overflow_add-most : goal.overflow_add-most
overflow_add-most c = omega (arith, c.pairs.ensures, c.pairs-2.ensures, pairs_few c.requires.0, pairs_few c.requires.1)

pub loop-n-init : goal.loop-n-init
loop-n-init c = λ s t o u. ([], going_start (c.first-x.ensures s o) (c.first-y.ensures t u))

pub merge_next-requires : goal.merge_next-requires
merge_next-requires c =
    let o = forward c.args.a.now c.requires.0 in
    let u = forward c.args.b.now c.requires.1 in
    in_both (c.loop-n.invariant _ _ o u).1 o u

pub loop-n-preserved : goal.loop-n-preserved
loop-n-preserved c = λ s t o u. let g = (c.loop-n.invariant s t o u).1 in (_, one_more g (c.in-Some.ensures s t o u g.first g.second g.first_is g.second_is))

pub returns : goal.returns
returns c = λ s t o u. let g = (c.loop-n.invariant s t o u).1 in omega (arith, ap length (counted_all g o u (omega (arith, c.pairs.ensures, c.pairs-2.ensures))), g.count)
