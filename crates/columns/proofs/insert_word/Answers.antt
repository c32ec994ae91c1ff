-- `columns::insert_word` meets its contract.
-- Assumes nothing.
use Prim.Native.Nat.{◌+◌}
use mathlib.Core.Path.{refl}
use Rattle.columns.proofs.Laws.{word_inserted}
use Rattle.columns.proofs.insert_word.Goals as goal

pub returns : goal.returns
returns c =
    λ h fs k i r a.
    let x = c.args in
    let b = c.node_base in
    word_inserted a k x.n.0 x.col x.count (b.result + x.col) i (rw b.ensures refl) (b.result + x.col + (x.count + 1)) x.at x.x _ refl r c.requires.2 c.slice_insert.ensures
