-- Assumes nothing.
use Rattle.std.proofs.Common.{ℕ, List, ◌≡◌, ◌+◌, ◌≤◌, length}
use Rattle.model.specs.Layout.{NodeVal, Arena}
use Rattle.cutting.proofs.Sweeps.{SweptTo}
use Rattle.sweep.proofs.sweep.Given as goal

abbrev pub invariant-loop-n : goal.invariant-loop-n
invariant-loop-n l = (l.free + l.n ≤ l.initial.n) × ((h : List ℕ) (ns : List NodeVal) → l.initial.n ≡ length ns → Arena l.initial.a h ns → SweptTo l.least l.a h ns l.first l.free l.n)
