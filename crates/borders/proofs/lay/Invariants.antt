-- Assumes nothing.
use Rattle.std.proofs.Common.{◌≡◌, take}
use Rattle.borders.specs.Laying.{words_in}
use Rattle.borders.proofs.lay.Given as goal

abbrev pub invariant-loop-i : goal.invariant-loop-i
invariant-loop-i l = take l.i l.a ≡ words_in (take l.i l.initial.s)
