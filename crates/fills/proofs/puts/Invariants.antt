-- Assumes nothing.
use Rattle.std.proofs.Common.{ℕ, ◌<◌, List}
use Rattle.fills.specs.Filling.{Fills}
use Rattle.fills.proofs.puts.Given as goal

abbrev pub invariant-loop-i : goal.invariant-loop-i
invariant-loop-i l = record {
  below : l.key < 10007;
  joins : (w' : List ℕ) (r : ℕ) → Fills l.initial.step w' r l.key l.i l.a → Fills l.initial.step w' r l.initial.key 0 l.initial.a;
}
