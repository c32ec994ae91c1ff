use Rattle.std.proofs.Common.{subst, List}
use Rattle.model.specs.Tree.{Pair}
use Rattle.model.proofs.Forward.{forward}
use Rattle.listing.specs.Heads.{HeadOf}
use Rattle.merging.proofs.Merges.{start_at, start_after}
use Rattle.merging.proofs.first.Goals as goal

pub peek-requires : goal.peek-requires
peek-requires c =
    let x = c in
    let o = forward x.args.a.now x.requires in
    record { state = _; holds = o; there = start_at o.sound c.lower_leaf_edge.result (c.lower_leaf_edge.ensures _ o) }

pub returns : goal.returns
returns c = λ s o.
    let d = c.lower_leaf_edge.result in
    let e = c.lower_leaf_edge.ensures s o in
    subst (λ (l : List Pair). HeadOf s l c.peek.result) (start_after o.sound d e) (c.peek.ensures s o (start_at o.sound d e))
