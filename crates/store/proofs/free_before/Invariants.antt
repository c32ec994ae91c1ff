-- Assumes nothing.
use Rattle.std.proofs.Common.{◌≡◌, ℕ, List}
use Rattle.model.specs.Layout.{NodeVal, Arena}
use Rattle.store.specs.Links.{node_if, ReturnReady}
use Rattle.store.proofs.Searches.{Searching}
use Rattle.store.proofs.free_before.Given as goal

abbrev pub invariant-loop-down : goal.invariant-loop-down
invariant-loop-down l =
    (h : List ℕ) (ns : List NodeVal) (free : List ℕ) → ReturnReady h ns free l.n.0 → Arena l.a h ns → (b : ℕ) × (l.before ≡ node_if b) × Searching ns free l.n.0 b l.next l.down
