-- `insert::put` meets its contract.
-- Assumes nothing.
use Rattle.std.proofs.Common.{Ok, arith}
use Rattle.model.specs.Answer.{said_former}
use Rattle.model.specs.State.{State, put}
use Rattle.model.specs.Promise.{Holds}
use Rattle.model.proofs.Forward.{forward}
use Rattle.header.proofs.Headed.{headed}
use Rattle.insert.specs.Inserts.{Placed}
use Rattle.insert.proofs.Ends.{more_of, more_none, more_some, placed, Counts, count_one, count_none, pairs_few, ended}
use Rattle.insert.proofs.put.Goals as goal
use Rattle.insert.proofs.put.Goals.{In_ok-former, Joined-is_none, then-is_none, else-is_none}

-- the pair is in its place
came : (c : In_ok-former) → let x = c.args in (s : State) → Holds x.a.now s → Placed x.key s (put x.key x.val s) c.put_pair.new.a (said_former (Ok c.in_ok-former.former)) (more_of c.in_ok-former.former)
came c s o = let x = c.args in placed x.key s (put x.key x.val s) x.a.now c.put_pair.new.a c.in_ok-former.former (c.in_ok-former.ensures s o)

-- and counted, if its key is new
counted : (c : Joined-is_none) → Counts c.put_pair.new.a c.if-is_none.a (more_of c.in_ok-former.former)
counted c = let w = c.put_pair.new.a in elim c.if-is_none.branch [
  | then-is_none t ↦ rw (t.a-is, t.count_on.ensures, more_none c.in_ok-former.former t.if-is_none.true c.is_none.ensures) (count_one w)
  | else-is_none t ↦ rw (t.a-is, more_some c.in_ok-former.former t.if-is_none.false c.is_none.ensures) (count_none w)
]

pub count_on-requires : goal.count_on-requires
count_on-requires c =
    let o = forward _ c.requires in
    (omega (arith, c.put_pair.auto.a, headed c.requires), omega (arith, pairs_few o c.args.key c.args.val (came (goal.at.count_on-requires c).In_ok-former _ o)))

pub returns : goal.returns
returns c = λ s o. ended o c.args.key c.args.val (came (goal.at.returns c).In_ok-former s o) _ _ (counted (goal.at.returns c).Joined-is_none) c.raise_mark.ensures
