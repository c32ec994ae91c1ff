-- `checker::pass_key` meets its contract.
-- Assumes nothing.
use Rattle.std.proofs.Common.{arith, refl}
use Rattle.inspect.proofs.Decisions.{decided, refuted}
use Rattle.checker.specs.Walks.{Rises, last_of}
use Rattle.checker.proofs.Tasks.{walk_is}
use Rattle.checker.proofs.pass_key.Goals as goal
use Rattle.checker.proofs.pass_key.Goals.{then-w-eq0-via-then-w-eq0, then-w-eq0-via-else-w-eq0+then-not-above}

pub returns-then-w-eq0 : goal.returns-then-w-eq0
unfolding Rises
returns-then-w-eq0 c =
    λ p.
    elim c.then-w-eq0.branch [
      | then-w-eq0-via-then-w-eq0 w ↦ omega (arith, p.pairs, w.if-w-eq0.true)
      | then-w-eq0-via-else-w-eq0+then-not-above w ↦ refuted w.above.result w.above.ensures w.if-not-above.true p.rises.0
    ]

pub returns : goal.returns
unfolding Rises last_of
returns c =
    (record { holds = tt; rises = (decided c.above.result c.above.ensures c.if-not-above.false, tt); pairs = omega arith; nodes = omega arith }, walk_is (omega arith) refl refl)
