-- `upgrade::copy_all` meets its contract.
-- Assumes nothing.
use Rattle.std.proofs.Common.{arith, ◌∙◌}
use Rattle.upgrade.proofs.Upgraded.{all_copied}
use Rattle.upgrade.proofs.copy_all.Goals as goal

pub returns : goal.returns
returns c =
    let x = c in
    c.copy_nodes.ensures ∙ all_copied _ _ x.args.from.now _ (omega (arith, x.requires.1.long_is)) c.copy_header.ensures
