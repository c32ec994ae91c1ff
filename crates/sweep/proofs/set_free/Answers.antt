-- `sweep::set_free` meets its contract.
-- Assumes nothing.
use Rattle.std.proofs.Common.{◌+◌, refl}
use Rattle.model.specs.Layout.{node_size}
use Rattle.model.specs.Words.{free_val}
use Rattle.cutting.proofs.Clearing.{node_put, free_small}
use Rattle.sweep.proofs.set_free.Goals as goal

pub returns : goal.returns
returns c =
    λ h ns o a.
    let x = c.args in
    let b = c.node_base-b in
    node_put a x.n.0 b.result (b.result + node_size) (free_val x.next) _ o b.ensures refl (free_small x.next) c.write_node.ensures
