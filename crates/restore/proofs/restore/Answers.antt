-- `restore::restore` meets its contract.
-- Assumes nothing.
use Rattle.std.proofs.Common.{arith}
use Rattle.inspect.proofs.Decisions.{decided, failed}
use Rattle.restore.proofs.Restored.{done}
use Rattle.restore.proofs.restore.Goals as goal

pub returns : goal.returns
returns c =
    let x = c.args in
    done x.older x.a.now x.image.now (omega arith) c.in_ok-check.ensures.ok (decided c.well_formed-2.result c.well_formed-2.ensures c.if-not-well_formed.false) (failed c.too_old.result c.too_old.ensures c.if-too_old.false) _ _ c.raise_to.ensures c.copy_but_mark.ensures
