-- Assumes nothing.
use Rattle.std.proofs.Common.{◌≡◌, ◌≤◌}
use Rattle.columns.proofs.Turns.{mix, doubled}
use Rattle.columns.proofs.open_words.Given as goal

abbrev pub invariant-loop-j : goal.invariant-loop-j
invariant-loop-j l = (1 ≤ l.j) × (l.s ≡ mix l.initial.s (doubled l.initial.s l.at) l.j)
