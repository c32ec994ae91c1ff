-- `append::fix_right_border_of_plentiful` meets its contract: a level with each turn.
-- Assumes nothing.
use Rattle.std.proofs.Common.{◌<◌, arith}
use Rattle.appending.proofs.Stocks.{stock_starts, stocks_in, stock_step, stock_ends, pushed_long}
use Rattle.append.proofs.fix_right_border_of_plentiful.Goals as goal

pub root-node-requires : goal.root-node-requires
root-node-requires c = omega (arith, pushed_long c.requires.pushed)

pub height-height-requires : goal.height-height-requires
height-height-requires c = omega (arith, pushed_long c.requires.pushed)

pub loop-height-init : goal.loop-height-init
loop-height-init c = λ g t free x. rw (c.root-node.ensures, c.height-height.ensures) (stock_starts x)

pub stock_right_child-node-requires : goal.stock_right_child-node-requires
stock_right_child-node-requires c =
    let p = c.requires in
    let l : 0 < c.loop-height._height = omega (arith, c.loop-height-test.true) in
    stocks_in _ l (c.loop-height.invariant _ _ _ p.pushed)

pub loop-height-preserved : goal.loop-height-preserved
loop-height-preserved c =
    let l : 0 < c.loop-height._height = omega (arith, c.loop-height-test.true) in
    λ g t free x. stock_step _ l c.stock_right_child-node.ensures (c.loop-height.invariant g t free x)

pub returns : goal.returns
returns c = λ g t free x. stock_ends _ (omega (arith, c.loop-height-test.false)) (c.loop-height.invariant g t free x)
