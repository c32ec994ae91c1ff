-- `upgrade::copy_header` meets its contract.
-- Assumes nothing.
use Rattle.std.proofs.Common.{ℕ, ap, List, set}
use Rattle.model.specs.Layout.{format_word, format_number}
use Rattle.upgrade.proofs.copy_header.Goals as goal

pub returns : goal.returns
returns c = ap (λ (l : List ℕ). set l format_word format_number) c.copy_from_slice.ensures
