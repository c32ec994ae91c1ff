-- `format::write_node` meets its contract.
-- Assumes nothing.
use Rattle.std.proofs.Common.{ℕ, ◌∙◌, ap}
use lib.ListN.{replicate}
use Rattle.format.proofs.Formatted.{node_words_lem}
use Rattle.format.proofs.write_node.Goals as goal

pub returns : goal.returns
returns c =
    let x = c in
    node_words_lem _ x.args.state x.args.link (c.fill.ensures.after (λ y e. e) ∙ ap (λ (n : ℕ). replicate n 0) x.requires)
