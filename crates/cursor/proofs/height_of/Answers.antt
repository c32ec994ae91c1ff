-- `cursor::height_of` meets its contract.
-- Assumes nothing.
use Rattle.std.proofs.Common.{arith}
use Rattle.header.proofs.Headed.{held}
use Rattle.cursor.proofs.Moves.{sunk_within, sunk_leaf, sunk_on, sunk_all}
use Rattle.cursor.proofs.height_of.Goals as goal

pub height-top-requires : goal.height-top-requires
height-top-requires c = omega (arith, held c.requires.holds)

pub loop-height-init : goal.loop-height-init
loop-height-init c = λ s o h p. record { left = h; place = p; sum = omega arith }

pub state-requires : goal.state-requires
state-requires c = let f = c.requires in sunk_within f.holds (c.loop-height.invariant f.state f.holds f.there.height f.there.place)

pub returns-then-state-ne-INTERNAL : goal.returns-then-state-ne-INTERNAL
returns-then-state-ne-INTERNAL c = λ s o h p. sunk_leaf o (c.loop-height.invariant s o h p) (λ e. omega (arith, e, c.state.ensures, c.if-state-ne-INTERNAL.true))

pub edge-below-requires : goal.edge-below-requires
edge-below-requires c = let f = c.requires in (sunk_within f.holds (c.loop-height.invariant f.state f.holds f.there.height f.there.place), omega arith)

pub loop-height-preserved : goal.loop-height-preserved
loop-height-preserved c = λ s o h p. sunk_on o (c.loop-height.invariant s o h p) (omega (arith, c.state.ensures, c.if-state-ne-INTERNAL.false)) c.edge-below.result.0 c.edge-below.ensures

pub returns : goal.returns
returns c = λ s o h p. let e = sunk_all o (c.loop-height.invariant s o h p) p (omega (arith, c.height-top.ensures)) in omega arith
