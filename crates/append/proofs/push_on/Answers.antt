-- `append::push_on` meets its contract: into the last leaf, or up.
-- Assumes nothing.
use Prim.Native.Nat.{ℕ, ◌+◌}
use mathlib.Core.Path.{sym, ap, ◌∙◌}
use native.Mathlib.Omega.{arith}
use Rattle.appending.proofs.Runs.{push_more, push_none}
use Rattle.appending.proofs.Sides.{last}
use Rattle.append.proofs.push_on.Goals as goal

pub push_pair-requires : goal.push_pair-requires
push_pair-requires c = ((last c.requires.0.load).fits _ c.requires.1 c.if-count-lt-CAPACITY.true, c.requires.1)

pub returns-then-count-lt-CAPACITY : goal.returns-then-count-lt-CAPACITY
returns-then-count-lt-CAPACITY c =
    λ g l o room.
    let e = c.requires.1 in
    ((last o).done _ e c.if-count-lt-CAPACITY.true _ _ c.push_pair.ensures, ap (λ (k : ℕ). k + 1) (e ∙ (last o).long) ∙ (sym (push_more _ l o.filling o.inner (omega (arith, c.if-count-lt-CAPACITY.true, (last o).long)))))

pub returns : goal.returns
returns c =
    λ g l o room.
    (c.push_up-last.ensures g l o room, sym (push_none _ l o.filling o.inner (omega (arith, c.if-count-lt-CAPACITY.false, c.requires.1, (last o).long))))
