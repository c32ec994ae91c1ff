use Rattle.std.proofs.Common.{refl, inr}
use Rattle.model.proofs.Forward.{forward}
use Rattle.listing.proofs.Sofar.{start_at, listed}
use Rattle.listing.proofs.list.Goals as goal

pub write_from-requires : goal.write_from-requires
write_from-requires c =
    let o = forward c.args.a.now c.in_ok-check.ensures.ok in
    record { state = _; holds = o; there = start_at c.args.range o.sound c.lower_leaf_edge.result (c.lower_leaf_edge.ensures _ o) }

pub returns : goal.returns
returns c =
    let o = forward c.args.a.now c.in_ok-check.ensures.ok in
    let y = start_at c.args.range o.sound c.lower_leaf_edge.result (c.lower_leaf_edge.ensures _ o) in
    let l = listed c.args.range o.sound c.args.out.now _ _ (c.write_from.ensures _ o y) in
    inr ((λ b. b c.in_ok-check.ensures.ok), inr ((λ b. cc), record { state = _; holds = o; left = refl; written = l.0; said = l.1 }))
