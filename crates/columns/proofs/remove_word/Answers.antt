-- `columns::remove_word` meets its contract.
-- Assumes nothing.
use Prim.Native.Nat.{ℕ, ◌+◌}
use mathlib.Core.Path.{◌≡◌, refl, ap, ◌∙◌}
use mathlib.Core.List.{List}
use lib.ListN.{get_or}
use Rattle.model.specs.Layout.{base}
use Rattle.columns.proofs.Laws.{word_removed, column_out}
use Rattle.columns.proofs.remove_word.Goals as goal

pub returns : goal.returns
returns c =
    λ h fs k i a.
    let x = c.args in
    let b = c.node_base in
    let s = b.result + x.col in
    let e : s ≡ base x.n.0 + x.col = rw b.ensures refl in (
      c.slice_remove.ensures.0 ∙ ap (λ (t : List ℕ). get_or t x.at 0) (column_out a k x.n.0 x.col x.count s i e (s + x.count) refl),
      word_removed a k x.n.0 x.col x.count s i e (s + x.count) x.at _ refl c.requires.2 c.slice_remove.ensures.1,
    )
