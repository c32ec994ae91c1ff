-- `inspect::zeros` meets its contract: the words are 0 exactly when all of them ored are.
-- Assumes nothing.
use Rattle.inspect.proofs.Words.{ored_zeros, zeros_ored}
use Rattle.inspect.proofs.Decisions.{decides_as, equal}
use Rattle.inspect.proofs.zeros.Goals as goal

pub returns : goal.returns
returns g c =
    let x = c.args in
    let b = c.base-b.ensures in
    decides_as _
    (ored_zeros g.F.Format.layout x.arena.now.words.now x.node.0 x.from x.to b c.ored.ensures)
    (zeros_ored g.F.Format.layout x.arena.now.words.now x.node.0 x.from x.to b c.ored.ensures)
    (equal c.ored.result 0)
