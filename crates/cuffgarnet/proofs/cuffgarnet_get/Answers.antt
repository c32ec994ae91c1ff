-- `cuffgarnet::cuffgarnet_get` meets its contract.
-- Assumes nothing.
use Rattle.cuffgarnet.proofs.Told.{worded}
use Rattle.cuffgarnet.proofs.cuffgarnet_get.Goals as goal

pub returns : goal.returns
returns c = worded c.get.ensures c.found.ensures c.hand_word.ensures.number c.hand_word.ensures.word
