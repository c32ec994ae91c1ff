use Rattle.model.proofs.Forward.{forward}
use Rattle.ranks.proofs.Told.{rank_told}
use Rattle.ranks.proofs.rank.Goals as goal

pub returns : goal.returns
returns c = let o = forward _ c.in_ok-check.ensures.ok in rank_told o _ _ (c.passed.ensures _ o)
