use Rattle.std.proofs.Common.{ap, ◌∙◌, ℕ, set, List, refl, ◌-◌, length}
use Rattle.slices.proofs.Moves.{removed_at}
use Rattle.slices.proofs.slice_remove.Goals as goal

pub returns : goal.returns
returns c = (refl, ap (λ (l : List ℕ). set l (length c.args.s.now - 1) 0) c.copy_within.ensures.after ∙ removed_at c.args.s.now c.args.idx c.requires)
