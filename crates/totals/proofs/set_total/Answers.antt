-- `totals::set_total` meets its contract.
-- Assumes nothing.
use Rattle.totals.proofs.Sums.{total_put}
use Rattle.totals.proofs.set_total.Goals as goal

pub returns : goal.returns
returns c = λ h ns o a. total_put a c.args.n.0 c.node_base-b.result c.args.total o c.node_base-b.ensures
