-- `columns::set_len` meets its contract.
-- Assumes nothing.
use Rattle.node.proofs.Fields.{count_set}
use Rattle.columns.proofs.set_len.Goals as goal

pub returns : goal.returns
returns c = λ h fs o a. rw c.node_base-b.ensures (count_set a c.args.n.0 o c.args.len)
