use Rattle.std.proofs.Common.{◌+◌, ◌-◌, ◌/◌, arith, sym, ap}
use Rattle.search.specs.Results.{indexed}
use Rattle.search.proofs.Halving.{Halved, halved_start, halved_right, halved_left, halved_kv, halved_edge, ends_first, ends_last, ends_past}
use Rattle.search.proofs.halve.Goals as goal
use Rattle.search.proofs.halve.Goals.{Joined-key-x, then-key-x, else-key-x, then-key-y, else-key-y}

pub loop-size-init : goal.loop-size-init
loop-size-init c = let x = c.requires in (omega (arith, x.0.from, x.0.inside), halved_start _ _ _ _ _ x.1 x.0 (omega (arith, x.0.from, x.0.inside)))

pub loop-size-preserved-then-x-key : goal.loop-size-preserved-then-x-key
loop-size-preserved-then-x-key c =
    let l = c.loop-size in
    let t = c.loop-size-test.true in
    (omega arith, halved_right l.invariant.1 (l.i + (l.size - l.size / 2) - 1) _ _ (omega arith) (omega arith) c.if-x-key.true (omega arith) (omega arith))

pub loop-size-preserved : goal.loop-size-preserved
loop-size-preserved c =
    let l = c.loop-size in
    let t = c.loop-size-test.true in
    (omega arith, halved_left l.invariant.1 (l.i + (l.size - l.size / 2) - 1) _ (omega arith) (omega arith) c.if-x-key.false (omega arith) (omega arith))

-- where the halving ends
over : (c : Joined-key-x) → let x = c.args in Halved x.key x.keys.now x.start.0 c.if-key-x.i 0 c.if-key-x.k
over c =
    let l = c.loop-size in
    let h = l.invariant.1 in
    let m = c.loop-size-test.false in
    elim c.if-key-x.branch [
      | then-key-x w ↦ rw (w.i-is, w.k-is) (ends_first h l.invariant.0 m w.if-key-x.true)
      | else-key-x w ↦ rw (w.i-is, w.k-is) (elim c.if-key-y.branch [
        | then-key-y v ↦ rw (v.i-is, v.k-is) (ends_last h l.invariant.0 m w.if-key-x.false v.if-key-y.true)
        | else-key-y v ↦ rw (v.i-is, v.k-is) (ends_past h l.invariant.0 m v.if-key-y.false)
      ])
    ]

pub returns-then-k-key : goal.returns-then-k-key
returns-then-k-key c = sym (ap indexed (halved_kv (over (goal.at.returns-then-k-key c).Joined-key-x) c.if-k-key.true))

pub returns : goal.returns
returns c = sym (ap indexed (halved_edge (over (goal.at.returns c).Joined-key-x) c.if-k-key.false))
