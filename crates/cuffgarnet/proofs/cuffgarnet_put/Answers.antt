-- `cuffgarnet::cuffgarnet_put` meets its contract.
-- Assumes nothing.
use Rattle.cuffgarnet.proofs.Told.{worded}
use Rattle.cuffgarnet.proofs.cuffgarnet_put.Goals as goal

pub returns : goal.returns
returns c = worded c.put.ensures c.former.ensures c.hand_word.ensures.number c.hand_word.ensures.word
