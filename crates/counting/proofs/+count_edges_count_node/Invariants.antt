-- Assumes nothing.
use Prim.Native.Nat.{ℕ, suc, ◌+◌}
use mathlib.Core.List.{List}
use Rattle.model.specs.Layout.{NodeVal, Arena}
use Rattle.counting.specs.Counting.{TreeIn, Upto}
use Rattle.counting.proofs.+count_edges_count_node.Given as goal

abbrev pub decreases-count_edges : goal.decreases-count_edges
decreases-count_edges l = l.below + l.below + 1

abbrev pub decreases-count_node : goal.decreases-count_node
decreases-count_node l = l.below + l.below

abbrev pub invariant-count_edges-loop-i : goal.invariant-count_edges-loop-i
invariant-count_edges-loop-i l = (hd : List ℕ) (ns : List NodeVal) (K : TreeIn ns l.n.0 (suc l.below)) → Arena l.initial.a hd ns → Upto l.a hd ns l.below K.tree l.i
