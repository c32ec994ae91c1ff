use Rattle.std.proofs.Common.{ℕ, ap, ◌∙◌}
use Rattle.model.specs.State.{formatted}
use Rattle.model.specs.Words.{words_of}
use Rattle.appending.specs.Runs.{Loads}
use Rattle.append.proofs.Words.{flag_said, key_said}
use Rattle.join.specs.Joins.{Anew}
use Rattle.join.proofs.Joining.{to_load}
use Rattle.join.proofs.load_anew.Goals as goal
use Rattle.join.proofs.load_anew.Goals.{After-write_all}

-- what is formatted may be loaded
ready : (c : After-write_all) (n : ℕ) → Anew n c.args.a.now c.args.run.now → Loads n c.write_all.new.a c.args.run.now
ready c n y = to_load y (c.write_all.ensures ∙ ap (λ (i : ℕ). words_of (formatted i)) (c.count.ensures ∙ y.count_is))

pub load_marked-requires : goal.load_marked-requires
load_marked-requires c = let x = c.requires in record { count = x.count; loads = ready (goal.at.load_marked-requires c).After-write_all x.count x.anew }

pub returns : goal.returns
returns c = λ n y covers. c.load_marked.ensures n _ (ready (goal.at.returns c).After-write_all n y) covers (c.from.ensures ∙ flag_said c.args.mark c.is_some.ensures) (c.unwrap_or.ensures ∙ key_said c.args.mark)
