use Rattle.std.proofs.Common.{ap, ◌∙◌, ℕ, set, List, arith}
use Rattle.slices.proofs.Moves.{inserted_at, inserted_last}
use Rattle.slices.proofs.slice_insert.Goals as goal
use Rattle.slices.proofs.slice_insert.Goals.{then-idx-last, else-idx-last}

pub returns : goal.returns
returns c =
    let x = c.args in
    let put : List ℕ → List ℕ = λ l. set l x.idx x.val in
    elim c.if-idx-last.branch [
      | then-idx-last w ↦ ap put (w.s-is ∙ w.copy_within.ensures.after) ∙ inserted_at x.s.now x.idx x.val c.requires
      | else-idx-last w ↦ ap put w.s-is ∙ inserted_last x.s.now x.idx x.val c.requires (omega (arith, w.if-idx-last))
    ]
