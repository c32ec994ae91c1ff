-- `cuffgarnet::cuffgarnet_next` meets its contract.
-- Assumes nothing.
use Rattle.cuffgarnet.proofs.Told.{paired}
use Rattle.cuffgarnet.proofs.cuffgarnet_next.Goals as goal

pub returns : goal.returns
returns c = paired c.keep_next.ensures c.from.ensures c.hand_pair.ensures.number c.hand_pair.ensures.key c.hand_pair.ensures.value
