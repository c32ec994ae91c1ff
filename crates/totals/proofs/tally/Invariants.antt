-- Assumes nothing.
use Rattle.std.proofs.Common.{◌≡◌, ℕ, List}
use Rattle.model.specs.Layout.{NodeVal, Arena}
use Rattle.store.specs.Links.{LinkReady}
use Rattle.totals.proofs.Sums.{sofar}
use Rattle.totals.proofs.tally.Given as goal

abbrev pub invariant-loop-i : goal.invariant-loop-i
invariant-loop-i l = (h : List ℕ) (ns : List NodeVal) → LinkReady ns l.n.0 l.end → Arena l.a h ns → l.t ≡ sofar ns l.n.0 l.i
