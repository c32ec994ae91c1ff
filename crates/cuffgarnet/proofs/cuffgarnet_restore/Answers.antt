-- `cuffgarnet::cuffgarnet_restore` meets its contract.
-- Assumes nothing.
use Rattle.cuffgarnet.proofs.Told.{numbered}
use Rattle.cuffgarnet.proofs.cuffgarnet_restore.Goals as goal

pub returns : goal.returns
returns c = numbered c.restore.ensures c.from.ensures c.number.ensures
