-- `batch::run_all` meets its contract.
-- Assumes nothing.
use Rattle.std.proofs.Common.{arith}
use Rattle.model.proofs.Forward.{forward}
use Rattle.model.proofs.Backward.{backward}
use Rattle.batch.proofs.Turns.{turn_start, turn_on, turn_end}
use Rattle.batch.proofs.run_all.Goals as goal

pub loop-i-init : goal.loop-i-init
loop-i-init c = λ s o. turn_start o

pub run-r-requires : goal.run-r-requires
run-r-requires c = backward _ _ (c.loop-i.invariant _ (forward c.args.a.now c.requires.0)).holds

pub loop-i-preserved : goal.loop-i-preserved
loop-i-preserved c = λ s o. let y = c.loop-i.invariant s o in turn_on y (omega arith) (omega arith) c.run-r.result (c.run-r.ensures y.now y.holds) c.write.ensures

pub returns : goal.returns
returns c = λ s o. turn_end (c.loop-i.invariant s o) (omega arith) (omega arith)
