-- `totals::lift` meets its contract: wherever it was going where the loop began, it is going still, and above the root it has no further to go.
-- Assumes nothing.
use Rattle.std.proofs.Common.{◌≡◌, ℕ, ◌+◌, ◌-◌, ◌≤◌, List, sym, ◌∙◌, arith}
use Rattle.model.specs.Layout.{NodeVal}
use Rattle.node.proofs.Reading.{arena_length}
use Rattle.totals.specs.Settling.{Settling}
use Rattle.totals.proofs.Settling.{lift_begin, lift_within, lift_room, lift_after, lift_end, lift_on}
use Rattle.totals.proofs.lift.Goals as goal
use Rattle.totals.proofs.lift.Goals.{At-loop, In-Some, at-In-Some}

pub height-end-requires : goal.height-end-requires
height-end-requires c = omega (arith, arena_length c.requires.arena)

known : (c : At-loop) → Settling c.loop.a c.requires.head c.requires.nodes c.loop.node.0 (c.height-end.result - c.loop.counter) c.args.was c.args.is
known c = let p = c.requires in c.loop.invariant _ _ (lift_begin c.height-end.ensures p.arena p.holds)

pub change-requires : goal.change-requires
change-requires c = let s = known (goal.at.change-requires c).At-loop in (lift_within s, (lift_room s).0, (lift_room s).1)

pub ascend-requires : goal.ascend-requires
ascend-requires c = lift_after (known (goal.at.ascend-requires c).At-loop) _ c.change.ensures

pub returns-in_default : goal.returns-in_default
returns-in_default c =
    λ hd ns l a. lift_end (c.loop.invariant hd ns (lift_begin c.height-end.ensures a l)) _ c.change.ensures (sym c.ascend.ensures ∙ c.in_default.is)

-- the step to the parent
on : (c : In-Some) → let levels = c.height-end.result - c.loop.counter in
    (hd : List ℕ) (ns : List NodeVal) → Settling c.loop.a hd ns c.loop.node.0 levels c.args.was c.args.is → (1 ≤ levels) × Settling c.change.new.a hd ns c.in-Some.parent.0 (levels - 1) c.args.was c.args.is
on c hd ns s = lift_on s _ c.change.ensures c.in-Some.parent c.in-Some.field-0-1 (sym c.ascend.ensures ∙ c.in-Some.is)

pub loop-preserved : goal.loop-preserved
loop-preserved c =
    λ hd ns s.
    let e : c.height-end.result - (c.loop.counter + 1) ≡ c.height-end.result - c.loop.counter - 1 = omega arith in
    rw e (on (goal.at.loop-preserved c).In-Some hd ns (c.loop.invariant hd ns s)).1

-- the last level was the root's
pub returns-in-Some : goal.returns-in-Some
returns-in-Some c = let i = (goal.at.returns-in-Some c).In-Some in absurd (omega (arith, (on i _ _ (known (at-In-Some i).At-loop)).0))
