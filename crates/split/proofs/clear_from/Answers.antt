-- `split::clear_from` meets its contract.
-- Assumes nothing.
use mathlib.Core.Path.{refl}
use Prim.Native.Nat.{◌+◌}
use native.Mathlib.Omega.{arith}
use Rattle.cutting.proofs.Clearing.{column_cut}
use Rattle.split.proofs.clear_from.Goals as goal

pub returns : goal.returns
returns c =
    λ h fs k o ec ee a.
    let x = c.args in
    let p = c.requires in
    let b = c.node_base in
    column_cut a k x.n.0 x.col x.from x.end (b.result + x.col + x.from) (b.result + x.col + x.end) _ o ec ee (rw b.ensures refl) (rw b.ensures refl) p.1 (omega (arith, b.ensures, p.0, p.2)) (c.fill.ensures.after (λ y e. e))
