-- `cursor::first` meets its contract.
-- Assumes nothing.
use Rattle.cursor.proofs.Moves.{walk_same, first_sought}
use Rattle.cursor.proofs.first.Goals as goal

pub returns : goal.returns
returns c = walk_same (λ s. first_sought c.args.changes s) c.seek.ensures
