-- `store::set_link` meets its contract.
-- Assumes nothing.
use Rattle.store.proofs.Chain.{link_put}
use Rattle.store.proofs.set_link.Goals as goal

pub returns : goal.returns
returns c = λ h ns o a. rw c.node_base-b.ensures (link_put a c.args.child.0 c.args.parent c.args.idx o)
