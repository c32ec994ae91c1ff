-- `append::stock_right_child` meets its contract: the last child and its left neighbour, left alone or stocked.
-- Assumes nothing.
use mathlib.Core.Path.{refl, ◌∙◌}
use native.Mathlib.Omega.{arith}
use Rattle.appending.proofs.Stocks.{stock_known, child_within, child_stays, child_asks, child_moved}
use Rattle.append.proofs.stock_right_child.Goals as goal

pub len-n-requires : goal.len-n-requires
len-n-requires c = (stock_known c.requires.coming).0

pub overflow_sub-at : goal.overflow_sub-at
overflow_sub-at c = omega (arith, c.len-n.ensures, stock_known c.requires.coming)

pub edge-left-requires : goal.edge-left-requires
edge-left-requires c = let k = stock_known c.requires.coming in (k.0, omega (arith, c.len-n.ensures, k.1, k.3))

pub edge-right-requires : goal.edge-right-requires
edge-right-requires c = let k = stock_known c.requires.coming in (k.0, omega (arith, c.len-n.ensures, k.1, k.3))

pub len-k-requires : goal.len-k-requires
len-k-requires c =
    let x = c.requires.coming in
    child_within x _ c.len-n.result (c.len-n.ensures ∙ (stock_known x).1) refl _ _ c.edge-left.ensures c.edge-right.ensures

pub returns-then-k-ge-MIN_LEN : goal.returns-then-k-ge-MIN_LEN
returns-then-k-ge-MIN_LEN c =
    λ h g t free x.
    child_stays x _ c.len-n.result (c.len-n.ensures ∙ (stock_known x).1) refl _ _ c.edge-left.ensures c.edge-right.ensures (omega (arith, c.if-k-ge-MIN_LEN.true, c.len-k.ensures))

pub bulk_steal_left-requires : goal.bulk_steal_left-requires
bulk_steal_left-requires c =
    let x = c.requires.coming in
    child_asks x _ c.len-n.result (c.len-n.ensures ∙ (stock_known x).1) refl _ _ c.edge-left.ensures c.edge-right.ensures _ (omega (arith, c.if-k-ge-MIN_LEN.false, c.len-k.ensures)) (omega (arith, c.len-k.ensures))

pub returns : goal.returns
returns c =
    λ h g t free x.
    child_moved x _ c.len-n.result (c.len-n.ensures ∙ (stock_known x).1) refl _ _ c.edge-left.ensures c.edge-right.ensures _ (omega (arith, c.if-k-ge-MIN_LEN.false, c.len-k.ensures)) (omega (arith, c.len-k.ensures)) c.bulk_steal_left.ensures
