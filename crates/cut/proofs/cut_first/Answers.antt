-- `cut::cut_first` meets its contract.
-- Assumes nothing.
use Rattle.model.proofs.Forward.{forward}
use Rattle.cut.proofs.Lower.{border_ready, border_done}
use Rattle.cut.proofs.cut_first.Goals as goal

pub fix_right_border-requires : goal.fix_right_border-requires
fix_right_border-requires c =
    let x = c in
    let o = forward x.args.a.now x.requires in
    border_ready x.args.key _ o.sound (c.cut_half.ensures _ o)

pub returns : goal.returns
returns c = λ s o. border_done c.args.key s o.sound (c.cut_half.ensures s o) c.fix_right_border.ensures
