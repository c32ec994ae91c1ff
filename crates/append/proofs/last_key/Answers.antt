-- `append::last_key` meets its contract.
-- Assumes nothing.
use Rattle.appending.proofs.Finish.{mark_last}
use Rattle.append.proofs.last_key.Goals as goal

pub returns-in-len2-up : goal.returns-in-len2-up
returns-in-len2-up c = mark_last c.args.run.now c.requires c.in-len2-up.len_at_least
