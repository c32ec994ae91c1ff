-- `format::next` meets its contract.
-- Assumes nothing.
use native.Mathlib.Omega.{arith}
use Rattle.format.proofs.Formatted.{last_none, next_one}
use Rattle.format.proofs.next.Goals as goal

pub returns-then-n-count : goal.returns-then-n-count
returns-then-n-count c = last_none _ _ c.if-n-count.true

pub returns : goal.returns
returns c = next_one _ _ (omega (arith, c.if-n-count.false))
