-- Assumes nothing.
use Rattle.std.proofs.Common.{◌≡◌, take}
use Rattle.slices.proofs.copy_from_slice.Given as goal

abbrev pub invariant-loop-i : goal.invariant-loop-i
invariant-loop-i l = take l.i l.s ≡ take l.i l.initial.src
