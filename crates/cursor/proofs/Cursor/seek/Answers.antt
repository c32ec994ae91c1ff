-- `cursor::Cursor::seek` meets its contract.
-- Assumes nothing.
use Rattle.cursor.proofs.Moves.{walk_done}
use Rattle.model.specs.Cursor as on
use Rattle.cursor.proofs.Cursor.seek.Goals as goal

pub returns : goal.returns
returns c = walk_done (on.seek c.args.changes c.args.start) _ c.args.changes c.from_start-stand.result c.in_default.ensures.ok (λ s o. c.from_start-stand.ensures s o c.args.changes)
