-- `insert::nodes_needed` meets its contract: every total that the count was going to where the loop began, it is going to still.
-- Assumes nothing.
use mathlib.Core.Path.{sym, ◌∙◌}
use Prim.Native.Nat.{ℕ, ◌+◌, ◌≤◌}
use native.Mathlib.Omega.{arith}
use Rattle.model.specs.Layout.{header, height_word}
use Rattle.model.specs.Insert.{needed}
use Rattle.model.specs.State.{State}
use Rattle.model.specs.Promise.{Holds}
use Rattle.insert.proofs.Needed.{Counting, count_start, count_within, count_low, count_few, count_ended, count_root, count_on}
use Rattle.insert.proofs.nodes_needed.Goals as goal
use Rattle.insert.proofs.nodes_needed.Goals.{At-loop-node, In-Some, at-In-Some}

-- the count at the loop's test, of the state that the caller knows of
known : (c : At-loop-node) → Counting (needed c.requires.there.way) c.requires.state c.loop-node.node.0 c.loop-node.count
known c = let q = c.requires in c.loop-node.invariant _ q.state q.holds (count_start q.holds c.args.edge q.there)

pub len-requires : goal.len-requires
len-requires c = count_within c.requires.holds _ _ _ (known c)

pub returns : goal.returns
returns c =
    λ s o y.
    count_ended o _ _ _ (c.loop-node.invariant _ s o (count_start o c.args.edge y)) (omega (arith, c.len.ensures, c.loop-node-test.false))

pub ascend-requires : goal.ascend-requires
ascend-requires c = count_within c.requires.holds _ _ _ (known (goal.at.ascend-requires c).At-loop-node)

pub overflow_add-result : goal.overflow_add-result
overflow_add-result c = omega (arith, count_few c.requires.holds _ _ _ (known (goal.at.overflow_add-result c).At-loop-node))

pub returns-in_default : goal.returns-in_default
returns-in_default c =
    λ s o y.
    let k = c.loop-node.invariant _ s o (count_start o c.args.edge y) in
    count_root o _ _ _ k (omega (arith, c.len.ensures, c.loop-node-test.true)) (sym c.ascend.ensures ∙ c.in_default.is)

-- the count at the parent
on : (c : In-Some) (total : ℕ) (s : State) → Holds c.args.a.now s
    → Counting total s c.loop-node.node.0 c.loop-node.count → Counting total s c.in-Some.parent.0 (c.loop-node.count + 1)
on c total s o k = count_on o _ _ _ k (omega (arith, c.len.ensures, c.loop-node-test.true)) c.in-Some.parent c.in-Some.field-0-1 (sym c.ascend.ensures ∙ c.in-Some.is)

low : (c : In-Some) → c.loop-node.count + 1 ≤ header c.args.a.now height_word
low c = let q = c.requires in count_low q.holds _ _ _ (on c _ q.state q.holds (known (at-In-Some c).At-loop-node))

pub overflow_add-count : goal.overflow_add-count
overflow_add-count c = omega (arith, count_few c.requires.holds _ _ _ (known (goal.at.overflow_add-count c).At-loop-node))

pub loop-node-smaller : goal.loop-node-smaller
loop-node-smaller c = omega (arith, low c)

pub loop-node-preserved : goal.loop-node-preserved
loop-node-preserved c = λ total s o k. on c total s o (c.loop-node.invariant total s o k)
