-- `sweep::goes` meets its contract.
-- Assumes nothing.
use mathlib.Core.Path.{sym, ap, ◌∙◌}
use lib.Dec.{leb}
use Rattle.cutting.proofs.Sweeps.{is_free, is_empty, is_other}
use Rattle.sweep.proofs.goes.Goals as goal

pub returns-then-state-eq-FREE : goal.returns-then-state-eq-FREE
returns-then-state-eq-FREE c =
    λ h ns o a.
    let x = c.args in
    sym (is_free a x.least x.n.0 o (sym c.state.ensures ∙ c.if-state-eq-FREE.true))

pub returns-then-len-eq0 : goal.returns-then-len-eq0
returns-then-len-eq0 c =
    λ h ns o a.
    let x = c.args in
    sym (is_empty a x.least x.n.0 o (λ e. c.if-state-eq-FREE.false (c.state.ensures ∙ e)) (sym c.len.ensures ∙ c.if-len-eq0.true))

pub returns : goal.returns
returns c =
    λ h ns o a.
    let x = c.args in
    sym (is_other a x.least x.n.0 o (λ e. c.if-state-eq-FREE.false (c.state.ensures ∙ e)) (λ e. c.if-len-eq0.false (c.len.ensures ∙ e)) ∙ ap (leb x.least) (sym c.key.ensures))
