-- `cursor::arrive` meets its contract.
-- Assumes nothing.
use Rattle.std.proofs.Common.{sym, ◌∙◌}
use Rattle.cursor.proofs.Moves.{pair_within, pair_arrived}
use Rattle.cursor.proofs.arrive.Goals as goal

pub key-requires : goal.key-requires
key-requires c = let f = c.requires in pair_within f.holds f.there.spot f.there.inside c.in-Some.kv (sym c.in-Some.is ∙ f.there.is)

pub val-requires : goal.val-requires
val-requires c = let f = c.requires in pair_within f.holds f.there.spot f.there.inside c.in-Some.kv (sym c.in-Some.is ∙ f.there.is)

pub returns-in-Some : goal.returns-in-Some
returns-in-Some c = λ s o p i e n. pair_arrived o p i c.in-Some.kv (sym c.in-Some.is ∙ e) n _ _ _ c.key.ensures c.val.ensures
