-- `cursor::Cursor::next` meets its contract.
-- Assumes nothing.
use Rattle.model.specs.Cursor as on
use Rattle.cursor.proofs.Moves.{next_refused, made_step}
use Rattle.cursor.proofs.Cursor.next.Goals as goal

pub returns-in-Ok : goal.returns-in-Ok
returns-in-Ok c = made_step c.args.changes c.args.self (on.next c.args.changes) c.next-stand.result c.in-Ok.ensures (λ s o. c.next-stand.ensures s o c.args.changes)

pub returns-in-Err : goal.returns-in-Err
returns-in-Err c = rw c.refused.ensures (next_refused c.args.changes c.args.self _ c.in-Err.ensures)
