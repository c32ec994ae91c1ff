-- `fix::choose_parent_kv` meets its contract: where the node hangs, and the edge beside that.
-- Assumes nothing.
use mathlib.Core.Path.{refl, sym, ◌∙◌}
use native.Mathlib.Omega.{arith}
use Rattle.fix.proofs.Choices.{mending_within, chose_root, parent_known, chose_left, chose_right}
use Rattle.fix.proofs.choose_parent_kv.Goals as goal

pub ascend-requires : goal.ascend-requires
ascend-requires c = mending_within c.requires.mending

pub returns-in_err-parent : goal.returns-in_err-parent
returns-in_err-parent c = λ g t m. c.from_residual.ensures ∙ chose_root m (sym c.ascend.ensures ∙ c.in_err-parent.was)

pub edge-left-requires : goal.edge-left-requires
edge-left-requires c =
    let k = parent_known c.requires.mending _ _ (sym c.ascend.ensures ∙ c.in_ok-parent.was) in
    (k.0, omega (arith, k.1))

pub returns-then-i-gt0 : goal.returns-then-i-gt0
returns-then-i-gt0 c = λ g t m. chose_left m _ _ (sym c.ascend.ensures ∙ c.in_ok-parent.was) (omega arith) _ c.edge-left.ensures _ refl

pub edge-right-requires : goal.edge-right-requires
edge-right-requires c =
    let k = parent_known c.requires.mending _ _ (sym c.ascend.ensures ∙ c.in_ok-parent.was) in
    (k.0, omega arith)

pub returns : goal.returns
returns c = λ g t m. chose_right m _ _ (sym c.ascend.ensures ∙ c.in_ok-parent.was) (λ o. omega (arith, c.if-i-gt0.false)) _ c.edge-right.ensures _ refl
