-- `fix::fix_node_and_affected_ancestors` meets its contract: whatever the repair was going to, it is going to still.
-- Assumes nothing.
use native.Mathlib.Omega.{arith}
use Rattle.model.specs.Nodes.{Grown}
use Rattle.std.proofs.Common.{Ok, Some}
use Rattle.standing.specs.Heads.{Rest}
use Rattle.fix.specs.Repairs.{Mending, Fixing}
use Rattle.fix.proofs.Balances.{mending_used}
use Rattle.fix.proofs.fix_node_and_affected_ancestors.Goals as goal
use Rattle.fix.proofs.fix_node_and_affected_ancestors.Goals.{In-Ok-Some}

-- a merge: the repair goes on at the parent
on : (c : In-Ok-Some) (g : Rest) (t : Grown) → Mending c.loop-parent.a g c.loop-parent.n.0 t → Fixing (Ok (Some c.in-Ok-Some.parent)) c.loop-parent.a c.fix_node_through_parent.new.a g t
on c g t m = rw c.in-Ok-Some.field-0-is at (c.in-Ok-Some.ensures g t m)

pub loop-parent-smaller : goal.loop-parent-smaller
loop-parent-smaller c =
    let f = c.loop-parent.invariant.0 in
    let v = on c f.rest f.end f.mending in
    omega (arith, mending_used f.mending, mending_used v.0, v.1)

pub loop-parent-preserved : goal.loop-parent-preserved
loop-parent-preserved c =
    let l = c.loop-parent in
    let f = l.invariant.0 in
    (record { rest = f.rest; end = f.end; mending = (on c f.rest f.end f.mending).0 }, omega (arith, l.invariant.1), λ g t m. (on c g t (l.invariant.2 g t m)).0)

pub returns-in-Ok-None : goal.returns-in-Ok-None
returns-in-Ok-None c = λ g t m. rw c.in-Ok-None.field-0-is at (c.in-Ok-None.ensures g t (c.loop-parent.invariant.2 g t m))
