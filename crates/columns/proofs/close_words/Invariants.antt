-- Assumes nothing.
use Rattle.std.proofs.Common.{◌≡◌}
use Rattle.columns.proofs.Turns.{mix, lessened}
use Rattle.columns.proofs.close_words.Given as goal

abbrev pub invariant-loop-j : goal.invariant-loop-j
invariant-loop-j l = l.s ≡ mix (lessened l.initial.s l.at) l.initial.s l.j
