-- `border::fix_border` meets its contract: tops, the way down, tops again.
-- Assumes nothing.
use Rattle.border.specs.Borders.{side_at}
use Rattle.border.proofs.Entry.{short_in, repairs}
use Rattle.border.proofs.fix_border.Goals as goal

pub fix_top-requires : goal.fix_top-requires
fix_top-requires c = short_in c.requires

pub fix_border_of_edge-requires : goal.fix_border_of_edge-requires
fix_border_of_edge-requires c = record { rest = _; end = _; topped = c.fix_top.ensures _ _ (short_in c.requires).rooted }

pub fix_top-requires-2 : goal.fix_top-requires-2
fix_top-requires-2 c = record { rest = _; end = _; rooted = c.fix_border_of_edge.ensures _ _ (c.fix_top.ensures _ _ (short_in c.requires).rooted) }

pub returns : goal.returns
returns c = repairs (side_at c.args.border) (λ r t x. (c.fix_top-2.ensures r _ (c.fix_border_of_edge.ensures r _ (c.fix_top.ensures r t x))).rooted)
