-- `columns::replace_word` meets its contract.
-- Assumes nothing.
use Prim.Native.Nat.{ℕ, ◌+◌}
use mathlib.Core.Path.{◌≡◌, refl, ap, ◌∙◌}
use lib.ListN.{get_or}
use Rattle.model.specs.Layout.{base}
use Rattle.node.specs.Fields.{start_of}
use Rattle.node.proofs.Fields.{stored_word}
use Rattle.columns.proofs.Laws.{word_replaced}
use Rattle.columns.proofs.replace_word.Goals as goal

pub returns : goal.returns
returns c =
    λ h fs k o s l a.
    let x = c.args in
    let b = c.node_base in
    let e : b.result + (x.col + x.at) ≡ base x.n.0 + (start_of k + x.at) = rw (b.ensures, s) refl in
    (ap (λ (t : ℕ). get_or x.a.now t 0) e ∙ stored_word a k x.n.0 x.at o l, word_replaced a k x.n.0 x.at x.x _ o e l)
