-- `remove::take_pair` meets its contract.
-- Assumes nothing.
use Rattle.remove.proofs.Leaving.{leaf_in, raw_taken, raw_settle, raw_told}
use Rattle.remove.proofs.take_pair.Goals as goal

pub remove-old-requires : goal.remove-old-requires
remove-old-requires c = let p = c.requires in leaf_in p.holds p.there

pub settle-requires : goal.settle-requires
settle-requires c = let p = c.requires in raw_settle p.holds p.there c.remove-old.ensures

pub returns : goal.returns
returns c = λ s o y. (raw_taken o y c.remove-old.ensures, raw_told o y c.remove-old.ensures c.settle.ensures)
