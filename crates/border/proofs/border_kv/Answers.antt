-- `border::border_kv` meets its contract.
-- Assumes nothing.
use Rattle.std.proofs.Common.{arith}
use Rattle.border.proofs.Sides.{known}
use Rattle.border.proofs.border_kv.Goals as goal

pub consider_for_balancing-requires : goal.consider_for_balancing-requires
consider_for_balancing-requires c = ((known c.requires.coming).0, omega arith)

pub len-requires : goal.len-requires
len-requires c = (known c.requires.coming).0

pub overflow_sub-last : goal.overflow_sub-last
overflow_sub-last c = omega (arith, c.len.ensures, known c.requires.coming)

pub consider_for_balancing-requires-in-Right : goal.consider_for_balancing-requires-in-Right
consider_for_balancing-requires-in-Right c = let k = known c.requires.coming in (k.0, omega (arith, c.len.ensures, k.1, k.2, k.3))
