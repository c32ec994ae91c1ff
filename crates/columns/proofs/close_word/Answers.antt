-- `columns::close_word` meets its contract.
-- Assumes nothing.
use Prim.Native.Nat.{◌+◌}
use native.Mathlib.Omega.{arith}
use mathlib.Core.Path.{◌≡◌, refl, ◌∙◌}
use Rattle.model.specs.Layout.{base}
use Rattle.columns.proofs.Laws.{room_most, column_closed, column_word}
use Rattle.columns.proofs.close_word.Goals as goal

pub returns : goal.returns
returns c =
    λ h fs k count i u o a.
    let x = c.args in
    let b = c.node_base in
    let s = b.result + x.col in
    let e : s ≡ base x.n.0 + x.col = rw b.ensures refl in (
      c.close_words.ensures.0 ∙ column_word a k x.n.0 x.col count s i e (s + 11) 11 x.at refl (room_most k) (omega arith),
      column_closed a k x.n.0 x.col count s i e (s + 11) 11 x.at _ refl (room_most k) u o c.close_words.ensures.1,
    )
