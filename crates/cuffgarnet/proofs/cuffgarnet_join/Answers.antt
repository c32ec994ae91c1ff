-- `cuffgarnet::cuffgarnet_join` meets its contract.
-- Assumes nothing.
use Rattle.cuffgarnet.proofs.Told.{numbered}
use Rattle.cuffgarnet.proofs.cuffgarnet_join.Goals as goal

pub returns : goal.returns
returns c = numbered c.join.ensures c.from.ensures c.number.ensures
