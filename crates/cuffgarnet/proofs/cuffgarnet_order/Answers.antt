-- `cuffgarnet::cuffgarnet_order` meets its contract.
-- Assumes nothing.
use Rattle.cuffgarnet.proofs.Told.{worded}
use Rattle.std.proofs.Common.{refl}
use Rattle.cuffgarnet.proofs.cuffgarnet_order.Goals as goal

pub returns : goal.returns
returns c = worded c.order.ensures refl c.hand_word.ensures.number c.hand_word.ensures.word
