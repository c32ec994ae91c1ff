-- `counting::count_leaf` meets its contract.
-- Assumes nothing.
use Rattle.std.proofs.Common.{◌∙◌}
use Rattle.counting.proofs.Counts.{leaf_known, leaf_word, leaf_counted}
use Rattle.counting.proofs.count_leaf.Goals as goal

pub len-t-requires : goal.len-t-requires
len-t-requires c = let p = c.requires in (leaf_known p.arena p.holds).0

pub set_total-requires : goal.set_total-requires
set_total-requires c = let p = c.requires in (leaf_known p.arena p.holds).0

pub returns : goal.returns
returns c = λ hd ns K a. leaf_counted a K _ (rw (c.len-t.ensures ∙ leaf_word a K) at (c.set_total.ensures hd ns (leaf_known a K).1 a))
