-- `append::load_formatted` meets its contract: the mark is the last key, which covers all.
-- Assumes nothing.
use Rattle.std.proofs.Common.{◌∙◌}
use Rattle.appending.proofs.Finish.{covers_last}
use Rattle.append.proofs.Words.{flag_said, key_said}
use Rattle.append.proofs.load_formatted.Goals as goal

pub returns : goal.returns
returns c =
    λ n o.
    let m = c.last_key-mark.result in
    rw c.last_key-mark.ensures at (c.load_marked.ensures n _ o (rw c.last_key-mark.ensures (covers_last o)) (c.from.ensures ∙ flag_said m c.is_some.ensures) (c.unwrap_or.ensures ∙ key_said m))
