-- `border::fix_border_of_edge` meets its contract: a level with each turn.
-- Assumes nothing.
use Rattle.std.proofs.Common.{◌≡◌, ◌+◌, ◌-◌, arith}
use Rattle.border.specs.Borders.{side_at}
use Rattle.border.proofs.Tops.{rooted_long}
use Rattle.border.proofs.Sides.{down_starts, descends, down_step, down_ends}
use Rattle.border.proofs.fix_border_of_edge.Goals as goal

pub root-node-requires : goal.root-node-requires
root-node-requires c = omega (arith, rooted_long c.requires.topped.rooted)

pub height-end-requires : goal.height-end-requires
height-end-requires c = omega (arith, rooted_long c.requires.topped.rooted)

pub loop-init : goal.loop-init
loop-init c = λ g t x. let e : c.height-end.result - 0 ≡ c.height-end.result = omega arith in rw (e, c.root-node.ensures, c.height-end.ensures) (down_starts (side_at c.args.border) x)

pub fix_child-node-requires : goal.fix_child-node-requires
fix_child-node-requires c = descends (side_at c.args.border) _ (omega (arith, c.loop-test.true)) (c.loop.invariant _ _ c.requires.topped)

pub loop-preserved : goal.loop-preserved
loop-preserved c =
    λ g t x.
    let e : c.height-end.result - (c.loop.counter + 1) ≡ c.height-end.result - c.loop.counter - 1 = omega arith in
    rw e (down_step (side_at c.args.border) _ (omega (arith, c.loop-test.true)) c.fix_child-node.ensures (c.loop.invariant g t x))

pub returns : goal.returns
returns c = λ g t x. down_ends (side_at c.args.border) _ (omega (arith, c.loop-test.false)) (c.loop.invariant g t x)
