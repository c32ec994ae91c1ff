-- `cuffgarnet::cuffgarnet_rank` meets its contract.
-- Assumes nothing.
use Rattle.cuffgarnet.proofs.Told.{summed}
use Rattle.cuffgarnet.proofs.cuffgarnet_rank.Goals as goal

pub returns : goal.returns
returns c = summed c.rank.ensures c.from.ensures c.hand_number.ensures.number c.hand_number.ensures.told
