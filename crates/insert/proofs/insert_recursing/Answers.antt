-- `insert::insert_recursing` meets its contract: every result that the climb was going to where the loop began, it is going to still.
-- Assumes nothing.
use Rattle.std.proofs.Common.{ℕ, sym, ◌∙◌, arith}
use Rattle.model.specs.Nodes.{Grown}
use Rattle.model.specs.Insert.{rise}
use Rattle.model.specs.State.{State}
use Rattle.model.specs.Promise.{Holds}
use Rattle.node.specs.Reading.{pair_of}
use Rattle.standing.specs.Heads.{Rest, rest_of}
use Rattle.growing.specs.Climbs.{Climbing}
use Rattle.growing.proofs.Climbs.{begin, climb_within, Above, above}
use Rattle.insert.specs.Inserts.{Roomy, ClimbIn, Upward}
use Rattle.insert.proofs.Targets.{upward, upward_fewer}
use Rattle.insert.proofs.insert_recursing.Goals as goal
use Rattle.insert.proofs.insert_recursing.Goals.{After-insert-split, At-loop-split, In-Some, In-Some-ascend, In_default-ascend, at-At-loop-split, at-In-Some, at-In-Some-ascend, at-In_default-ascend}

-- where the climb is going: after the leaf, and at the loop's test
begun : (c : After-insert-split) → let x = c.args in (s : State) → Holds x.a.now s → (y : Roomy s x.edge)
    → Upward c.insert-split.new.a (rest_of s) x.edge.node.0 c.insert-split.result (rise y.edge.way tt (pair_of x.kv) tt s.free)
begun c s o y =
    let x = c.args in
    let b = begin o x.edge y.edge y.room (pair_of x.kv) in
    upward b c.insert-split.new.a c.insert-split.result (c.insert-split.ensures 0 b.gap)

here : (c : At-loop-split) → let x = c.args in (s : State) → Holds x.a.now s → (y : Roomy s x.edge)
    → Upward c.loop-split.a (rest_of s) c.loop-split.node.0 c.loop-split.split (rise y.edge.way tt (pair_of x.kv) tt s.free)
here c s o y = c.loop-split.invariant.1 _ _ (begun (at-At-loop-split c).After-insert-split s o y)

-- from the state that the caller knows of
known : (c : At-loop-split) → let q = c.requires in
    let x = c.args in
    Upward c.loop-split.a (rest_of q.state) c.loop-split.node.0 c.loop-split.split (rise q.there.edge.way tt (pair_of x.kv) tt q.state.free)
known c = let q = c.requires in here c q.state q.holds q.there

-- a node was split
rising : (c : In-Some) (g : Rest) (t : Grown) → let l = c.loop-split in let r = c.in-Some.up in
    Upward l.a g l.node.0 l.split t → (levels : ℕ) × Climbing l.a g l.node.0 levels (pair_of r.kv) r.right.0 t
rising c g t u = rw c.in-Some.is at u

-- and there is no node above it
hung : (c : In_default-ascend) (g : Rest) (t : Grown) → let l = c.loop-split in let r = c.in-Some.up in
    Upward l.a g l.node.0 l.split t → ClimbIn l.a g r t
hung c g t u = record { node = _; levels = _; climb = (rising (at-In_default-ascend c).In-Some g t u).1; hangs = sym c.ascend.ensures ∙ c.in_default-ascend.is }

-- or there is one
over : (c : In-Some-ascend) (g : Rest) (t : Grown) → let l = c.loop-split in let r = c.in-Some.up in
    (u : Upward l.a g l.node.0 l.split t) → Above l.a g c.in-Some-ascend.parent.0 c.in-Some-ascend.idx.0 r.right.0 (rising (at-In-Some-ascend c).In-Some g t u).0 (pair_of r.kv) t
over c g t u = above _ _ _ (rising (at-In-Some-ascend c).In-Some g t u).1 c.in-Some-ascend.parent c.in-Some-ascend.idx (sym c.ascend.ensures ∙ c.in-Some-ascend.is)

pub insert-split-requires : goal.insert-split-requires
insert-split-requires c =
    let q = c.requires in
    let x = c.args in
    record { height = 0; gap = (begin q.holds x.edge q.there.edge q.there.room (pair_of x.kv)).gap }

pub ascend-requires : goal.ascend-requires
ascend-requires c = climb_within (rising (goal.at.ascend-requires c).In-Some _ _ (known (goal.at.ascend-requires c).At-loop-split)).1

pub split_root-requires : goal.split_root-requires
split_root-requires c = record { rest = _; goal = _; climb = hung (goal.at.split_root-requires c).In_default-ascend _ _ (known (goal.at.split_root-requires c).At-loop-split) }

pub returns-in_default-ascend : goal.returns-in_default-ascend
returns-in_default-ascend c = λ s o y. c.split_root.ensures (rest_of s) _ (hung (goal.at.returns-in_default-ascend c).In_default-ascend _ _ (here (goal.at.returns-in_default-ascend c).At-loop-split s o y))

pub insert-split-requires-in-Some : goal.insert-split-requires-in-Some
insert-split-requires-in-Some c =
    let a = over (goal.at.insert-split-requires-in-Some c).In-Some-ascend _ _ (known (goal.at.insert-split-requires-in-Some c).At-loop-split) in
    record { height = a.height; gap = a.next.gap }

pub loop-split-smaller : goal.loop-split-smaller
loop-split-smaller c =
    let a = over (goal.at.loop-split-smaller c).In-Some-ascend _ _ (known (goal.at.loop-split-smaller c).At-loop-split) in
    rw c.in-Some.is (upward_fewer a.next.gap _ _ c.insert-split-in-Some.result (c.insert-split-in-Some.ensures a.height a.next.gap))

pub loop-split-preserved : goal.loop-split-preserved
loop-split-preserved c = (
  omega (arith, c.insert-split-in-Some.auto.a, c.loop-split.invariant.0),
  λ g t u.
      let a = over (goal.at.loop-split-preserved c).In-Some-ascend g t (c.loop-split.invariant.1 g t u) in
      upward a.next _ c.insert-split-in-Some.result (c.insert-split-in-Some.ensures a.height a.next.gap),
)

pub returns : goal.returns
returns c = λ s o y. rw c.in_default.is at (here (goal.at.returns c).At-loop-split s o y)
