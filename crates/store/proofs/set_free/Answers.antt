-- `store::set_free` meets its contract.
-- Assumes nothing.
use Rattle.store.proofs.Chain.{free_put}
use Rattle.store.proofs.set_free.Goals as goal

pub returns : goal.returns
returns c = λ h ns o p q a. rw c.node_base-b.ensures (free_put a c.args.n.0 c.args.next o p q)
