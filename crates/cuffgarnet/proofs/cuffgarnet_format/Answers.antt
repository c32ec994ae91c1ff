-- `cuffgarnet::cuffgarnet_format` meets its contract.
-- Assumes nothing.
use Rattle.cuffgarnet.proofs.Told.{numbered}
use Rattle.cuffgarnet.proofs.cuffgarnet_format.Goals as goal

pub returns : goal.returns
returns c = numbered c.format.ensures c.from.ensures c.number.ensures
