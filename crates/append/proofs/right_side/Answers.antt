-- `append::right_side` meets its contract: every right side that the loop began with, it goes on with.
-- Assumes nothing.
use Rattle.std.proofs.Common.{ℕ, ◌≡◌, arith}
use mathlib.Core.Path.{subst}
use Rattle.appending.specs.Pushes as pushes
use Rattle.appending.specs.Pushes.{Building}
use Rattle.appending.proofs.Sides.{leaf_has, leaf_built, crown_has, crown_built}
use Rattle.append.proofs.right_side.Goals as goal
use Rattle.append.proofs.right_side.Goals.{After-take_node-leaf, At-loop-level, at-At-loop-level}

-- the leaf
first : (c : After-take_node-leaf) → let x = c.args in (s : pushes.Place x.a.now x.levels) → (c.take_node-leaf.result.0 ≡ s.next) × Building c.take_node-leaf.new.a s.rest s.way s.tree s.next 1 c.take_node-leaf.result.0
first c s = leaf_built s.way s.tree s.next s.held (omega (arith, s.some, s.room)) _ _ c.take_node-leaf.ensures

-- and what stands at the loop's test
known : (c : At-loop-level) → let x = c.args in (s : pushes.Place x.a.now x.levels) → Building c.loop-level.a s.rest s.way s.tree s.next c.loop-level._level c.loop-level.top.0
known c s = c.loop-level.invariant s.rest s.height s.way s.tree s.next s.room (first (at-At-loop-level c).After-take_node-leaf s).1

pub take_node-leaf-requires : goal.take_node-leaf-requires
take_node-leaf-requires c = let s = c.requires in leaf_has s.way s.tree s.next s.held (omega (arith, s.some, s.room))

pub new_internal-top-requires : goal.new_internal-top-requires
new_internal-top-requires c =
    let s = c.requires in
    crown_has s.way s.tree s.next (known (goal.at.new_internal-top-requires c).At-loop-level s) (omega (arith, s.room, c.loop-level-test.true))

pub loop-level-preserved : goal.loop-level-preserved
loop-level-preserved c =
    λ g h d x n r b.
    crown_built d x n (c.loop-level.invariant g h d x n r b) (omega (arith, c.loop-level-test.true)) _ _ c.new_internal-top.ensures

pub returns : goal.returns
returns c =
    λ s.
    let l = c.loop-level in
    let e : l._level ≡ c.args.levels = omega (arith, c.loop-level-test.false, l.auto._level-end s.some) in
    ((first (goal.at.returns c).After-take_node-leaf s).0, subst (λ (i : ℕ). Building l.a s.rest s.way s.tree s.next i l.top.0) e (known (goal.at.returns c).At-loop-level s))
