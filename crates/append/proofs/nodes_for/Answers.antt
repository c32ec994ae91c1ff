-- `append::nodes_for` meets its contract: what was counted, and the nodes above, are all.
-- Assumes nothing.
use Prim.Native.Nat.{ℕ, ◌+◌, ◌/◌, ◌≤◌}
use mathlib.Core.Path.{◌≡◌, refl}
use native.Mathlib.Omega.{arith}
use Rattle.model.specs.Room.{above, nodes_for}
use Rattle.loading.proofs.Counting.{above_is}
use Rattle.loading.proofs.Least.{div_twelve, above_few}
use Rattle.append.proofs.nodes_for.Goals as goal
use Rattle.append.proofs.nodes_for.Goals.{In-loop-left}

bound : (c : ℕ) → nodes_for c ≤ c / 12 + 1 + c / 12
unfolding nodes_for
bound c = omega (arith, above_few (c / 12) (c / 12))

-- a level more
more : (c : In-loop-left) → let l = c.loop-left in (l.nodes + (l.left / 12 + 1)) + above (l.left / 12) (l.left / 12) ≡ nodes_for c.args.pairs
more c = let l = c.loop-left in omega (arith, l.invariant, above_is l.left c.loop-left-test.true)

pub loop-left-init : goal.loop-left-init
unfolding nodes_for
loop-left-init c = refl

pub overflow_add-nodes-in-loop-left-2 : goal.overflow_add-nodes-in-loop-left-2
overflow_add-nodes-in-loop-left-2 c = omega (arith, c.ranges.pairs, bound c.args.pairs, div_twelve c.args.pairs, more c)

pub loop-left-preserved : goal.loop-left-preserved
loop-left-preserved c = more c
