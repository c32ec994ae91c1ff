-- `cuffgarnet::cuffgarnet_at` meets its contract.
-- Assumes nothing.
use Rattle.cuffgarnet.proofs.Told.{paired}
use Rattle.cuffgarnet.proofs.cuffgarnet_at.Goals as goal

pub returns : goal.returns
returns c = paired c.at.ensures c.from.ensures c.hand_pair.ensures.number c.hand_pair.ensures.key c.hand_pair.ensures.value
