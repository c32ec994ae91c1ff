-- `columns::open_word` meets its contract.
-- Assumes nothing.
use Prim.Native.Nat.{◌+◌}
use mathlib.Core.Path.{refl}
use Rattle.columns.proofs.Laws.{room_most, column_opened}
use Rattle.columns.proofs.open_word.Goals as goal

pub returns : goal.returns
returns c =
    λ h fs k count i u o a.
    let x = c.args in
    let b = c.node_base in
    column_opened a k x.n.0 x.col count (b.result + x.col) i (rw b.ensures refl) (b.result + x.col + 11) 11 x.at x.x _ refl (room_most k) u o c.open_words.ensures
