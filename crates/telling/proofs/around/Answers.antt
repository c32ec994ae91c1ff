-- `telling::around` meets its contract.
-- Assumes nothing.
use Rattle.std.proofs.Common.{◌+◌, refl, arith, le-leb}
use borrow.Author.Tests.{lt-leb}
use Rattle.telling.proofs.around.Goals as goal

pub returns-then-k-round : goal.returns-then-k-round
returns-then-k-round c = let x = c.args in (omega arith, rw (le-leb x.round (x.key + x.step) c.if-k-round.true) refl)

pub returns-else-k-round : goal.returns-else-k-round
returns-else-k-round c = let x = c.args in (omega arith, rw (lt-leb x.round (x.key + x.step) (omega (arith, c.if-k-round.false))) refl)
