use Rattle.std.proofs.Common.{arith, ◌∙◌}
use Rattle.model.proofs.Forward.{forward}
use Rattle.navigate.proofs.Pairs.{kv_within, kv_key, kv_val}
use Rattle.ranks.proofs.Told.{none_told, pair_told}
use Rattle.ranks.proofs.at.Goals as goal

pub returns-then-rank-pairs : goal.returns-then-rank-pairs
returns-then-rank-pairs c = none_told (forward _ c.in_ok-check.ensures.ok) _ (omega (arith, c.if-rank-pairs.true, c.pairs.ensures))

pub key-k-requires : goal.key-k-requires
key-k-requires c = let o = forward _ c.in_ok-check.ensures.ok in kv_within _ (c.pick-kv.ensures _ o).kv o

pub val-requires : goal.val-requires
val-requires c = let o = forward _ c.in_ok-check.ensures.ok in kv_within _ (c.pick-kv.ensures _ o).kv o

pub returns : goal.returns
returns c = let o = forward _ c.in_ok-check.ensures.ok in let p = c.pick-kv.ensures _ o in pair_told o _ p _ _ (c.key-k.ensures ∙ kv_key _ p.kv o) (c.val.ensures ∙ kv_val _ p.kv o)
