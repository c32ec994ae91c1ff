-- `append::push` meets its contract.
-- Assumes nothing.
use Rattle.appending.proofs.Sides.{last}
use Rattle.append.proofs.push.Goals as goal

pub len-n-requires : goal.len-n-requires
len-n-requires c = (last c.requires.load).inside
