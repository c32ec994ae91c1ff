-- `empties::take` meets its contract.
-- Assumes nothing.
use Rattle.std.proofs.Common.{refl}
use Rattle.model.specs.Answer.{said_found}
use Rattle.empties.proofs.take.Goals as goal

pub returns : goal.returns
returns c =
    record {
      answer = said_found c.delete.result;
      deleted = c.delete.ensures;
      mixes = rw (c.mix_words.ensures, c.mixed.ensures, c.number.ensures, c.word.ensures, c.found-r.ensures) refl;
    }
