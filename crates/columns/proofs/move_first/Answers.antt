-- `columns::move_first` meets its contract.
-- Assumes nothing.
use Prim.Native.Nat.{◌+◌}
use mathlib.Core.Path.{refl}
use Rattle.columns.proofs.Laws.{first_moved}
use Rattle.columns.proofs.move_first.Goals as goal

pub returns : goal.returns
returns c =
    λ h fs k i j r a.
    let s = c in
    let x = s.args in
    let b = c.node_base in
    let d = c.node_base-2 in
    first_moved a k x.left.0 x.right.0 x.col x.at x.len i j s.requires.within.2 x.count (b.result + x.col) (b.result + x.col + x.len) (d.result + (x.col + x.at)) c.move_words.new.a _ r s.requires.count_bound.2 (rw b.ensures refl) refl (rw d.ensures refl) c.move_words.ensures c.slice_shl.ensures
