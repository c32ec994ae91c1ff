-- `cuffgarnet::cuffgarnet_load` meets its contract.
-- Assumes nothing.
use Rattle.cuffgarnet.proofs.Told.{numbered}
use Rattle.cuffgarnet.proofs.cuffgarnet_load.Goals as goal

pub returns : goal.returns
returns c = numbered c.load.ensures c.from.ensures c.number.ensures
