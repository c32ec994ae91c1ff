-- `fix::do_merge` meets its contract.
-- Assumes nothing.
use Rattle.fix.proofs.Balances.{merge_in, merge_set, merge_settle, merge_hole}
use Rattle.fix.proofs.do_merge.Goals as goal

pub do_merge-requires : goal.do_merge-requires
do_merge-requires c = let u = c.requires in merge_in u.both u.can

pub set_right-requires : goal.set_right-requires
set_right-requires c = let u = c.requires in merge_set u.both u.can c.do_merge.ensures

pub settle-requires : goal.settle-requires
settle-requires c = let u = c.requires in merge_settle u.both u.can c.do_merge.ensures c.set_right.ensures

pub returns : goal.returns
returns c = λ g q e. merge_hole q e c.do_merge.ensures c.set_right.ensures c.settle.ensures
