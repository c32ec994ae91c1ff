-- Assumes nothing.
use Rattle.std.proofs.Common.{ℕ, ◌-◌, List}
use Rattle.model.specs.Layout.{NodeVal}
use Rattle.totals.specs.Settling.{Settling}
use Rattle.totals.proofs.lift.Given as goal

abbrev pub invariant-loop : goal.invariant-loop
invariant-loop l = (hd : List ℕ) (ns : List NodeVal) → Settling l.initial.a hd ns l.initial.node.0 l.end l.was l.is → Settling l.a hd ns l.node.0 (l.end - l.counter) l.was l.is
