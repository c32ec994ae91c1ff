-- `cursor::last` meets its contract.
-- Assumes nothing.
use Rattle.model.specs.Cursor as on
use Rattle.cursor.proofs.Moves.{walk_done}
use Rattle.cursor.proofs.last.Goals as goal

pub returns : goal.returns
returns c = walk_done (on.last c.args.changes) _ c.args.changes c.from_end-stand.result c.in_default.ensures.ok (λ s o. c.from_end-stand.ensures s o c.args.changes)
