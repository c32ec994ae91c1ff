-- `checker::check` meets its contract.
-- Assumes nothing.
use Rattle.std.proofs.Common.{refl}
use Rattle.model.specs.State.{check}
use Rattle.model.proofs.Ends.{call_refused, call_done, stays}
use Rattle.inspect.proofs.Decisions.{decided, refuted}
use Rattle.checker.proofs.check.Goals as goal

pub returns-then-not-well_formed-clause-promise : goal.returns-then-not-well_formed-clause-promise
returns-then-not-well_formed-clause-promise c = call_refused _ (refuted c.well_formed-2.result c.well_formed-2.ensures c.if-not-well_formed.true)

pub returns-clause-promise : goal.returns-clause-promise
returns-clause-promise c = call_done check (decided c.well_formed-2.result c.well_formed-2.ensures c.if-not-well_formed.false) (λ s o. stays o refl)
