-- `columns::move_last` meets its contract.
-- Assumes nothing.
use Prim.Native.Nat.{◌+◌}
use mathlib.Core.Path.{refl}
use Rattle.columns.proofs.Laws.{last_moved}
use Rattle.columns.proofs.move_last.Goals as goal

pub returns : goal.returns
returns c =
    λ h fs k i j r a.
    let s = c in
    let x = s.args in
    let b = c.node_base in
    let d = c.node_base-2 in
    rw c.move_words.ensures (last_moved a k x.left.0 x.right.0 x.col (x.from + x.count) x.len i j s.requires.within.2 x.from x.count (b.result + x.col) (b.result + x.col + (x.len + x.count)) (d.result + (x.col + x.from)) _ refl r (rw b.ensures refl) refl (rw d.ensures refl) c.slice_shr.ensures)
