-- `cuffgarnet::cuffgarnet_reserve` meets its contract.
-- Assumes nothing.
use Rattle.cuffgarnet.proofs.Told.{numbered}
use Rattle.cuffgarnet.proofs.cuffgarnet_reserve.Goals as goal

pub returns : goal.returns
returns c = numbered c.reserve.ensures c.from.ensures c.number.ensures
