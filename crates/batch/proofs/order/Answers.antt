-- `batch::order` meets its contract.
-- Assumes nothing.
use Rattle.model.proofs.Ends.{call_done}
use Rattle.batch.proofs.order.Goals as goal

pub returns-in-Ok : goal.returns-in-Ok
returns-in-Ok c = call_done _ c.in-Ok.ensures.ok c.run.ensures
