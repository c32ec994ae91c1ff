-- `fix::bulk_steal` meets its contract: the same at either side.
-- Assumes nothing.
use Rattle.std.proofs.Common.{ap, subst}
use Rattle.model.specs.Insert.{Side}
use Rattle.balance.specs.declared.BalancingContext.{BalancingContext}
use Rattle.node.specs.Reading.{Has}
use Rattle.totals.proofs.Siblings.{SetCall, SettleCall}
use Rattle.fix.specs.Repairs.{side_of, both_of}
use Rattle.fix.proofs.Balances.{Steals, RawSteal, steal_in, steal_set, steal_set_right, steal_settle, steal_hole}
use Rattle.fix.proofs.bulk_steal.Goals as goal
use Rattle.fix.proofs.bulk_steal.Goals.{Joined-sibling, After-set_right, After-set_right-2, in-Left, in-Right}

pub bulk_steal_left-requires : goal.bulk_steal_left-requires
bulk_steal_left-requires c =
    let u = c.requires in
    let x = c.args in
    rw c.neighbours-context.ensures (subst (λ (s : Side). Has x.a.now (λ h ns. Steals s (both_of x.sibling) x.count ns)) (ap side_of c.in-Left.is) (steal_in u.both (side_of x.sibling) x.count u.some u.lent u.room))

pub bulk_steal_right-requires : goal.bulk_steal_right-requires
bulk_steal_right-requires c =
    let u = c.requires in
    let x = c.args in
    rw c.neighbours-context.ensures (subst (λ (s : Side). Has x.a.now (λ h ns. Steals s (both_of x.sibling) x.count ns)) (ap side_of c.in-Right.is) (steal_in u.both (side_of x.sibling) x.count u.some u.lent u.room))

-- the pairs were moved out of the sibling, at whichever side it is
moved : (c : Joined-sibling) → let x = c.args in RawSteal (side_of x.sibling) x.a.now c.match-sibling.a (both_of x.sibling) x.count
moved c =
    let x = c.args in
    subst (λ (b : BalancingContext). RawSteal (side_of x.sibling) x.a.now c.match-sibling.a b x.count) c.neighbours-context.ensures
    (elim c.match-sibling.branch [
      | in-Left t ↦ rw (t.in-Left.is, t.a-is) t.bulk_steal_left.ensures
      | in-Right t ↦ rw (t.in-Right.is, t.a-is) t.bulk_steal_right.ensures
    ])

pub set_right-requires : goal.set_right-requires
set_right-requires c = let u = c.requires in rw c.neighbours-context.ensures (steal_set u.both _ c.args.count u.some u.lent u.room (moved (goal.at.set_right-requires c).Joined-sibling))

-- the counts of both were set right
left_set : (c : After-set_right) → SetCall c.match-sibling.a c.set_right.new.a (both_of c.args.sibling).left.0
left_set c = rw c.neighbours-context.ensures at c.set_right.ensures

right_set : (c : After-set_right-2) → SetCall c.set_right.new.a c.set_right-2.new.a (both_of c.args.sibling).right.0
right_set c = rw c.neighbours-context.ensures at c.set_right-2.ensures

pub set_right-requires-2 : goal.set_right-requires-2
set_right-requires-2 c =
    let u = c.requires in
    let m = moved (goal.at.set_right-requires-2 c).Joined-sibling in
    rw c.neighbours-context.ensures (steal_set_right u.both _ c.args.count u.some u.lent u.room m (left_set (goal.at.set_right-requires-2 c).After-set_right))

pub settle-requires : goal.settle-requires
settle-requires c =
    let u = c.requires in
    let m = moved (goal.at.settle-requires c).Joined-sibling in
    rw c.neighbours-context.ensures (steal_settle u.both _ c.args.count u.some u.lent u.room m (left_set (goal.at.settle-requires c).After-set_right) (right_set (goal.at.settle-requires c).After-set_right-2))

pub returns : goal.returns
returns c =
    λ g q some lent room.
    let m = moved (goal.at.returns c).Joined-sibling in
    let e : SettleCall c.set_right-2.new.a c.settle.new.a (both_of c.args.sibling).parent.0 = rw c.neighbours-context.ensures at c.settle.ensures in
    steal_hole q _ c.args.count some lent room m (left_set (goal.at.returns c).After-set_right) (right_set (goal.at.returns c).After-set_right-2) e
