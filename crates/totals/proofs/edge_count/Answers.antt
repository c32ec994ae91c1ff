-- `totals::edge_count` meets its contract.
-- Assumes nothing.
use mathlib.Core.Path.{sym, ap, ◌∙◌}
use Prim.Native.Nat.{ℕ, ◌+◌}
use Rattle.balance.proofs.Shapes.{with_all, with_none}
use Rattle.totals.proofs.edge_count.Goals as goal

pub returns-then-state-eq-INTERNAL : goal.returns-then-state-eq-INTERNAL
returns-then-state-eq-INTERNAL c = ap (λ (k : ℕ). k + 1) c.len.ensures ∙ sym (with_all _ _ (sym c.state.ensures ∙ c.if-state-eq-INTERNAL.true))

pub returns : goal.returns
returns c = sym (with_none _ _ (λ e. c.if-state-eq-INTERNAL.false (c.state.ensures ∙ e)))
