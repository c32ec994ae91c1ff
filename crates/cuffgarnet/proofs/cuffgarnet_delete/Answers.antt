-- `cuffgarnet::cuffgarnet_delete` meets its contract.
-- Assumes nothing.
use Rattle.cuffgarnet.proofs.Told.{worded}
use Rattle.cuffgarnet.proofs.cuffgarnet_delete.Goals as goal

pub returns : goal.returns
returns c = worded c.delete.ensures c.found.ensures c.hand_word.ensures.number c.hand_word.ensures.word
