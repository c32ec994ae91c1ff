-- `reserve::reserve` meets its contract.
-- Assumes nothing.
use mathlib.Core.Path.{sym, ◌∙◌}
use Rattle.reserve.proofs.Reserves.{spent_already, handed_out}
use Rattle.reserve.proofs.reserve.Goals as goal

pub returns-then-reached : goal.returns-then-reached
returns-then-reached c = λ s o. spent_already o _ (sym c.if-reached.true ∙ c.reached.ensures)

pub returns : goal.returns
returns c = λ s o. handed_out o _ (sym c.if-reached.false ∙ c.reached.ensures) c.raise_mark.ensures
