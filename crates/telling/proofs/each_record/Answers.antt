-- `telling::each_record` meets its contract.
-- Assumes nothing.
use Rattle.std.proofs.Common.{take, refl, arith, of_calls, length-take}
use Rattle.telling.specs.Records.{last, spent, one_more}
use Rattle.telling.proofs.each_record.Goals as goal

pub returns-then-n-lt-RECORD : goal.returns-then-n-lt-RECORD
returns-then-n-lt-RECORD g c =
    let b = take c.in_ok-n.n c.read_full.new.buf in
    (c.take.new.self, c.loop-i.invariant.1 _ _ (last b (omega arith) (simp length-take (omega arith)) c.in_ok-n.ensures.bytes (c.in_ok-n.ensures.end (omega arith)) (record { shown = _; shows = refl; called = c.in_ok-take.ensures })))

pub loop-i-preserved : goal.loop-i-preserved
loop-i-preserved g c =
    let b = take c.in_ok-n.n c.read_full.new.buf in
    (search (of_calls, c.loop-i.invariant.0, c.take.ensures), λ t h x. c.loop-i.invariant.1 t h (one_more b c.read_full.new.input c.take.new.self (omega arith) (simp length-take (omega arith)) c.in_ok-n.ensures.bytes (record { shown = _; shows = refl; called = c.in_ok-take.ensures }) x))

pub returns : goal.returns
returns g c = (c.loop-i.take, c.loop-i.invariant.1 _ _ (spent (omega arith) refl refl))
