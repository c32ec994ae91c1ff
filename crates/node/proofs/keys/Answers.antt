-- `node::keys` meets its contract.
-- Assumes nothing.
use Prim.Native.Nat.{ℕ, ◌+◌}
use mathlib.Core.Path.{refl, ap, ◌∙◌}
use Rattle.model.specs.Lists.{part}
use Rattle.model.specs.Layout.{keys_word}
use Rattle.slices.proofs.Laws.{lent_out}
use Rattle.node.proofs.keys.Goals as goal

pub returns : goal.returns
returns c =
    let w = c.args.a.now in
    let b = c.node_base-k in
    let l = c.len in
    lent_out w (b.result + keys_word) (b.result + keys_word + l.result) l.result refl
    ∙ ap (λ (k : ℕ). part w (k + keys_word) l.result) b.ensures
    ∙ ap (part w _) l.ensures
