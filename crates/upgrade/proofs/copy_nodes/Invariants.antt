-- Assumes nothing.
use Rattle.std.proofs.Common.{◌-◌, ◌≡◌, ◌++◌, length, take}
use Rattle.model.specs.Layout.{header_size, base}
use Rattle.upgrade.specs.Copies.{copies}
use Rattle.upgrade.proofs.copy_nodes.Given as goal

abbrev pub invariant-loop-i : goal.invariant-loop-i
invariant-loop-i l = (length l.to ≡ length l.initial.to) × (take (base l.i) l.to ++ copies l.initial.from l.i (l.initial.count - l.i) ≡ take header_size l.initial.to ++ copies l.initial.from 0 l.initial.count)
