-- `node::word` meets its contract.
-- Assumes nothing.
use Prim.Native.Nat.{ℕ, ◌+◌}
use mathlib.Core.Path.{ap}
use lib.ListN.{get_or}
use Rattle.model.specs.Layout.{word_at_by}
use Rattle.node.proofs.word.Goals as goal

pub returns : goal.returns
unfolding word_at_by
returns c =
    let x = c.args in
    ap (λ (k : ℕ). get_or x.a.now (k + x.k) 0) c.node_base-b.ensures
