-- `totals::change` meets its contract.
-- Assumes nothing.
use Rattle.std.proofs.Common.{◌∙◌}
use Rattle.node.proofs.Reading.{total_is}
use Rattle.totals.proofs.change.Goals as goal

pub returns : goal.returns
returns c = λ h ns o a. rw (c.total.ensures ∙ total_is a c.args.n.0 o) at (c.set_total.ensures h ns o a)
