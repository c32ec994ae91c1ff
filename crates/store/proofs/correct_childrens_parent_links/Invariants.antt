-- Assumes nothing.
use Rattle.std.proofs.Common.{ℕ, List}
use Rattle.model.specs.Layout.{NodeVal, Arena}
use Rattle.store.specs.Links.{LinkReady}
use Rattle.store.proofs.Relink.{so}
use Rattle.store.proofs.correct_childrens_parent_links.Given as goal

abbrev pub invariant-loop-i : goal.invariant-loop-i
invariant-loop-i l = (h : List ℕ) (ns : List NodeVal) → LinkReady ns l.n.0 l.end → Arena l.initial.a h ns → Arena l.a h (so ns l.n.0 l.from l.i)
