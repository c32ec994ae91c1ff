-- `cuffgarnet::cuffgarnet_check` meets its contract.
-- Assumes nothing.
use Rattle.cuffgarnet.proofs.Told.{numbered}
use Rattle.cuffgarnet.proofs.cuffgarnet_check.Goals as goal

pub returns : goal.returns
returns c = numbered c.check.ensures.promise c.from.ensures c.number.ensures
