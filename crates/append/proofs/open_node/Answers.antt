-- `append::open_node` meets its contract: every load that the push was going to where the loop began, it is going to still.
-- Assumes nothing.
use Prim.Native.Nat.{◌+◌}
use mathlib.Core.Path.{sym, ap, ◌∙◌}
use native.Mathlib.Omega.{arith}
use Rattle.model.specs.Layout.{header, height_word}
use Rattle.model.specs.Tree.{Pair}
use Rattle.standing.specs.Heads.{Rest}
use Rattle.model.specs.Load.{Loading}
use Rattle.appending.specs.Pushes.{Rising}
use Rattle.appending.proofs.Climbs.{rising_within, rising_low, rising_few, above_within, above_roomy, above_full, rooting}
use Rattle.append.proofs.open_node.Goals as goal
use Rattle.append.proofs.open_node.Goals.{At-loop-parent, Else-len-lt-CAPACITY}

-- where the push is, of a load that the caller knows of
known : (c : At-loop-parent) → let s = c.requires in Rising c.loop-parent.a s.rest c.loop-parent.node.0 c.loop-parent.levels s.pair s.end
known c = let s = c.requires in c.loop-parent.invariant.1 s.rest s.pair s.end s.rising

pub ascend-requires : goal.ascend-requires
ascend-requires c = rising_within (known c)

pub push_internal_level-root-requires : goal.push_internal_level-root-requires
push_internal_level-root-requires c = (rooting (known (goal.at.push_internal_level-root-requires c).At-loop-parent) (sym c.ascend.ensures ∙ c.in_default.is)).asks

pub returns-in_default : goal.returns-in_default
returns-in_default c =
    λ g p t k.
    (rooting (c.loop-parent.invariant.1 g p t k) (sym c.ascend.ensures ∙ c.in_default.is)).leaves _ _ c.push_internal_level-root.ensures

pub len-requires : goal.len-requires
len-requires c =
    let d = c in
    above_within (known (goal.at.len-requires c).At-loop-parent) d.in-Some.parent d.in-Some.field-0-1 (sym d.ascend.ensures ∙ d.in-Some.is)

pub returns-then-len-lt-CAPACITY : goal.returns-then-len-lt-CAPACITY
returns-then-len-lt-CAPACITY c =
    λ g p t k.
    let d = c in
    above_roomy (d.loop-parent.invariant.1 g p t k) d.in-Some.parent d.in-Some.field-0-1 (sym d.ascend.ensures ∙ d.in-Some.is) (omega (arith, c.len.ensures, c.if-len-lt-CAPACITY.true))

-- the node above, which is full
on : (c : Else-len-lt-CAPACITY) (g : Rest) (p : Pair) (t : Loading) → let d = c in let l = d.loop-parent in Rising l.a g l.node.0 l.levels p t → Rising l.a g d.in-Some.parent.0 (l.levels + 1) p t
on c g p t k =
    let d = c in
    above_full k d.in-Some.parent d.in-Some.field-0-1 (sym d.ascend.ensures ∙ d.in-Some.is) (omega (arith, c.len.ensures, c.if-len-lt-CAPACITY.false))

pub overflow_add-levels : goal.overflow_add-levels
overflow_add-levels c = omega (arith, rising_few (known (goal.at.overflow_add-levels c).At-loop-parent))

pub loop-parent-smaller : goal.loop-parent-smaller
loop-parent-smaller c =
    let l = c in
    let r = rising_low (on c _ _ _ (known (goal.at.loop-parent-smaller c).At-loop-parent)) in
    let e = ap (λ w. header w height_word) l.loop-parent.invariant.0 in
    omega arith

pub loop-parent-preserved : goal.loop-parent-preserved
loop-parent-preserved c = (c.loop-parent.invariant.0, λ g p t k. on c g p t (c.loop-parent.invariant.1 g p t k))
