-- `border::fix_top` meets its contract: while the root is internal and empty, what the tops come to stays the same.
-- Assumes nothing.
use Prim.Native.Nat.{suc}
use mathlib.Core.Path.{◌≡◌, ◌∙◌, subst}
use native.Mathlib.Omega.{arith}
use lib.ListN.{length}
use Rattle.model.specs.Nodes.{Grown}
use Rattle.standing.specs.Heads.{Rest}
use Rattle.border.specs.Borders.{Rooted, Topped, tops}
use Rattle.border.proofs.Tops.{root_known, height_word_is, rooted_long, stays, some_leaf, some_pairs, goes_in, goes}
use Rattle.border.proofs.fix_top.Goals as goal
use Rattle.border.proofs.fix_top.Goals.{After-slice_known-in-loop-a-1}

pub height-requires : goal.height-requires
height-requires c = omega (arith, rooted_long c.loop-a.invariant.0.rooted)

pub root-root-requires : goal.root-root-requires
root-root-requires c = omega (arith, rooted_long c.loop-a.invariant.0.rooted)

pub len-requires : goal.len-requires
len-requires c = (root_known c.loop-a.invariant.0.rooted _ c.root-root.ensures).0

pub returns-then-len-gt0 : goal.returns-then-len-gt0
returns-then-len-gt0 c =
    λ g t x.
    let y = c.loop-a.invariant.2 g t x in
    subst (Topped c.loop-a.a g) y.2 (stays y.1 (some_pairs y.1.height (length y.1.tree.rest) (omega (arith, c.if-len-gt0.true, c.len.ensures, (root_known y.1 _ c.root-root.ensures).1))))

pub pop_internal_level-requires : goal.pop_internal_level-requires
pop_internal_level-requires c =
    let x = c.loop-a.invariant.0.rooted in
    goes_in x (omega (arith, c.if-len-gt0.false, c.len.ensures, (root_known x _ c.root-root.ensures).1)) (omega (arith, c.loop-a-test.true, c.height.ensures))

-- a level less
on : (c : After-slice_known-in-loop-a-1) (g : Rest) (t : Grown) (x : Rooted c.loop-a.a g t) → (t' : Grown) × (y : Rooted c.pop_internal_level.new.a g t') × (suc y.height ≡ x.height) × (tops t' ≡ tops t)
on c g t x = goes x (omega (arith, c.if-len-gt0.false, c.len.ensures, (root_known x _ c.root-root.ensures).1)) (omega (arith, c.loop-a-test.true, c.height.ensures)) c.pop_internal_level.ensures

pub loop-a-smaller : goal.loop-a-smaller
loop-a-smaller c =
    let x = c.loop-a.invariant.0.rooted in
    let y = on c _ _ x in
    omega (arith, height_word_is x, height_word_is y.1, y.2)

pub loop-a-preserved : goal.loop-a-preserved
loop-a-preserved c =
    let f = c.loop-a.invariant in
    (record { rest = _; end = _; rooted = (on c _ _ f.0.rooted).1 }, omega (arith, f.1), λ g t x. let u = f.2 g t x in let y = on c g u.0 u.1 in (y.0, y.1, y.3 ∙ u.2))

pub returns : goal.returns
returns c =
    λ g t x.
    let y = c.loop-a.invariant.2 g t x in
    subst (Topped c.loop-a.a g) y.2 (stays y.1 (some_leaf y.1.height (length y.1.tree.rest) (omega (arith, c.loop-a-test.false, c.height.ensures, height_word_is y.1))))
