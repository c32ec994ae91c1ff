-- `inspect::ascents` meets its contract.
-- Assumes nothing.
use Rattle.std.proofs.Common.{sym, arith}
use Rattle.inspect.proofs.Ups.{ups_more, ups_few, ups_none, rise_few}
use Rattle.inspect.proofs.ascents.Goals as goal

pub loop-i-init : goal.loop-i-init
loop-i-init g c = sym (ups_none _)

pub overflow_add-m : goal.overflow_add-m
overflow_add-m g c = grind (arith, ups_few, rise_few)

pub loop-i-preserved : goal.loop-i-preserved
loop-i-preserved g c = grind (arith, ups_more)
