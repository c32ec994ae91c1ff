-- `leaf::split_leaf_data` meets its contract.
-- Assumes nothing.
use mathlib.Core.Path.{◌∙◌}
use Rattle.leaf.proofs.Steps.{to_move, to_remove, pair_of_mid, split_done}
use Rattle.leaf.proofs.split_leaf_data.Goals as goal

pub returns : goal.returns
returns c =
    λ h ns s a.
    let x = c.args in
    let r = c.remove.ensures h _ (to_remove ns _ _ _ s) (c.move_last_pairs.ensures h ns (to_move ns _ _ _ s a) a) in
    (r.0 ∙ pair_of_mid ns x.n.0 x.new.0 x.at.0 s, rw (split_done ns x.n.0 x.new.0 x.at.0 s) at r.1)
