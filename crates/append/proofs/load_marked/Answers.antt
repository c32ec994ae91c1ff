-- `append::load_marked` meets its contract: the run pushed, the load ended.
-- Assumes nothing.
use Rattle.std.proofs.Common.{refl}
use Rattle.model.specs.State.{formatted}
use Rattle.model.specs.Load.{pairs_of}
use Rattle.standing.specs.Heads.{rest_of}
use Rattle.appending.proofs.Finish.{begins, begins_in, half_is, sound_with}
use Rattle.append.proofs.load_marked.Goals as goal

pub bulk_push-requires : goal.bulk_push-requires
bulk_push-requires c = begins_in c.requires.loads

pub finish-requires : goal.finish-requires
finish-requires c = let q = c.requires in record { rest = _; pairs = pairs_of c.args.run.now; ended = c.bulk_push.ensures _ (begins q.loads) }

pub returns : goal.returns
returns c = λ n m o v es em. c.finish.ensures (rest_of (formatted n)) (pairs_of c.args.run.now) m (c.bulk_push.ensures _ (begins o)) (record { pairs_are = half_is o _ refl; seen_is = es; mark_is = em }) (sound_with o m v)
