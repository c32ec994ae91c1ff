-- `cuffgarnet::cuffgarnet_upgrade` meets its contract.
-- Assumes nothing.
use Rattle.cuffgarnet.proofs.Told.{numbered}
use Rattle.cuffgarnet.proofs.cuffgarnet_upgrade.Goals as goal

pub returns : goal.returns
returns c = numbered c.upgrade.ensures c.from.ensures c.number.ensures
