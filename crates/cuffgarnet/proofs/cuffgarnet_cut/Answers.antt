-- `cuffgarnet::cuffgarnet_cut` meets its contract.
-- Assumes nothing.
use Rattle.cuffgarnet.proofs.Told.{numbered}
use Rattle.cuffgarnet.proofs.cuffgarnet_cut.Goals as goal

pub returns : goal.returns
returns c = numbered c.cut.ensures c.from.ensures c.number.ensures
