-- What is mixed in is settled by the listing, told or not.
-- Assumes nothing.
use Rattle.std.proofs.Common.{refl}
use Rattle.model.specs.Answer.{said_listed}
use Rattle.replay.proofs.Failed.{on_err}
use Rattle.replay.proofs.listing.Goals as goal

pub returns-in_err-println-clause-err : goal.returns-in_err-println-clause-err
returns-in_err-println-clause-err g c = on_err c.from_residual.result (_, record { answer = said_listed c.list.result; left = c.list.new.out; listed = c.list.ensures; mixes = refl })
