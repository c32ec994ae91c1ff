-- `cuffgarnet::cuffgarnet_batch` meets its contract.
-- Assumes nothing.
use Rattle.cuffgarnet.proofs.Told.{numbered}
use Rattle.cuffgarnet.proofs.cuffgarnet_batch.Goals as goal

pub returns : goal.returns
returns c = numbered c.batch.ensures c.from.ensures c.number.ensures
