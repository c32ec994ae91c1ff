-- `totals::set_right` meets its contract.
-- Assumes nothing.
use Rattle.node.proofs.Reading.{within}
use Rattle.totals.proofs.set_right.Goals as goal

pub set_total-requires : goal.set_total-requires
set_total-requires c = within c.requires.arena c.args.n.0 c.requires.holds.0.node
