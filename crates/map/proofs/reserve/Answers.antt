-- `map::reserve` meets its contract.
-- Assumes nothing.
use Rattle.model.proofs.Ends.{call_done}
use Rattle.map.proofs.reserve.Goals as goal

pub returns : goal.returns
returns c = call_done _ c.in_ok-check.ensures.ok c.reserve.ensures
