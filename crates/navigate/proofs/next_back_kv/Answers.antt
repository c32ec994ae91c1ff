use Rattle.std.proofs.Common.{◌+◌, ◌≤◌, refl, sym, ◌∙◌, arith}
use Rattle.model.specs.Layout.{header, height_word}
use Rattle.model.specs.Walk.{back_kv}
use Rattle.model.specs.State.{State}
use Rattle.model.specs.Promise.{Holds}
use Rattle.model.proofs.Bounds.{low}
use Rattle.model.proofs.Backward.{backward}
use Rattle.navigate.specs.Places.{EdgeAt}
use Rattle.navigate.proofs.Steps.{Climb, climb_at, climb_start, climb_top, climb_root, climb_on, Backs, back_here, back_above, back_ended}
use Rattle.navigate.proofs.next_back_kv.Goals as goal
use Rattle.navigate.proofs.next_back_kv.Goals.{In_ok-node}

pub loop-edge-init : goal.loop-edge-init
loop-edge-init c = λ s o y. climb_start (Backs (back_kv y.way) y.way) o.sound c.args.from y refl

pub returns-then-edge-gt0 : goal.returns-then-edge-gt0
returns-then-edge-gt0 c = λ s o y. back_here (back_kv y.way) y.way o _ _ _ (c.loop-edge.invariant s o y) (omega (arith, c.if-edge-gt0.true))

pub ascend-requires : goal.ascend-requires
ascend-requires c = let f = c.requires in (climb_at _ f.holds (c.loop-edge.invariant f.state f.holds f.there)).within

pub returns-in_err-node : goal.returns-in_err-node
returns-in_err-node c = λ s o y.
    let l = c.loop-edge.invariant s o y in
    let m = back_above (back_kv y.way) y.way o _ _ _ l (omega (arith, c.if-edge-gt0.false)) in
    c.from_residual.ensures ∙ back_ended (back_kv y.way) y.way o _ _ _ l (climb_root _ o _ _ _ l m (sym c.in_err-node.ensures))

-- the climb at the parent
on : (c : In_ok-node) (s : State) → Holds c.args.a.now s → (y : EdgeAt s c.args.from) → Climb (Backs (back_kv y.way) y.way) s c.in_ok-node.node.0 (c.loop-edge.edge.height + 1) c.in_ok-node.at.0
on c s o y =
    let l = c.loop-edge.invariant s o y in
    let m = back_above (back_kv y.way) y.way o _ _ _ l (omega (arith, c.if-edge-gt0.false)) in
    climb_on _ o _ _ _ l m c.in_ok-node.node c.in_ok-node.at (sym c.in_ok-node.ensures)

high : (c : In_ok-node) → c.loop-edge.edge.height + 1 ≤ header c.args.a.now height_word
high c = let f = c.requires in climb_top _ f.holds (on c f.state f.holds f.there)

pub overflow_add-height : goal.overflow_add-height
overflow_add-height c = let f = c.requires in omega (arith, high (goal.at.overflow_add-height c).In_ok-node, low (backward _ _ f.holds))

pub loop-edge-smaller : goal.loop-edge-smaller
loop-edge-smaller c = omega (arith, high (goal.at.loop-edge-smaller c).In_ok-node)

pub loop-edge-preserved : goal.loop-edge-preserved
loop-edge-preserved c = on (goal.at.loop-edge-preserved c).In_ok-node
