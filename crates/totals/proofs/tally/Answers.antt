-- `totals::tally` meets its contract. The invariant: the counts of the nodes that the first i edges lead to are added up.
-- Assumes nothing.
use Prim.Native.Nat.{◌+◌}
use mathlib.Core.Path.{◌∙◌}
use native.Mathlib.Omega.{arith}
use Rattle.totals.proofs.Sums.{sofar_few, here, none_yet, child_here, one_more}
use Rattle.totals.proofs.tally.Goals as goal

pub len-t-requires : goal.len-t-requires
len-t-requires c = let p = c.requires in (here p.arena p.holds.0).0

pub loop-i-init : goal.loop-i-init
loop-i-init c = λ h ns k a. c.len-t.ensures ∙ none_yet a k

pub edge-child-requires : goal.edge-child-requires
edge-child-requires c =
    let p = c.requires in
    let k = here p.arena p.holds.0 in
    (k.0, omega arith)

pub total-t-requires : goal.total-t-requires
total-t-requires c =
    let p = c.requires in
    child_here p.arena p.holds.0 c.loop-i.i _ (omega arith) c.edge-child.ensures

pub overflow_add-t : goal.overflow_add-t
overflow_add-t c =
    let p = c.requires in
    let l = c.loop-i in
    let x = c.args in
    omega (
      arith,
      l.invariant p.head p.nodes p.holds.0 p.arena,
      one_more p.arena p.holds.0 l.i _ (omega arith) c.edge-child.ensures,
      c.total-t.ensures,
      sofar_few p.nodes x.n.0 (l.i + 1),
      p.holds.1,
    )

pub loop-i-preserved : goal.loop-i-preserved
loop-i-preserved c =
    let l = c.loop-i in
    λ h ns k a. omega (arith, l.invariant h ns k a, one_more a k l.i _ (omega arith) c.edge-child.ensures, c.total-t.ensures)
