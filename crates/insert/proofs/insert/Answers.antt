-- `insert::insert` meets its contract.
-- Assumes nothing.
use Rattle.node.specs.Reading.{pair_of}
use Rattle.insert.proofs.insert.Goals as goal

pub settle_inserted-requires : goal.settle_inserted-requires
settle_inserted-requires c =
    let g = c.requires in
    record { was = _; height = _; at = _; child = _; gap = g.gap; pair = pair_of c.args.kv; outcome = c.insert_or_split-split.ensures g.height g.gap }

pub returns : goal.returns
returns c = λ k s. c.settle_inserted.ensures _ _ _ _ s (pair_of c.args.kv) (c.insert_or_split-split.ensures k s)
