-- `leaf::move_first_pairs` meets its contract.
-- Assumes nothing.
use Prim.Native.Nat.{ℕ, ◌+◌, ◌-◌}
use mathlib.Core.Path.{sym}
use mathlib.Core.List.{List, ◌++◌}
use native.Mathlib.Omega.{arith}
use lib.ListN.{take, drop, length-append, length-drop}
use lib.Seq.{length-take-le}
use Rattle.model.specs.Tree.{Pair}
use Rattle.model.specs.Layout.{nth}
use Rattle.slices.proofs.Laws.{map_drop}
use Rattle.node.specs.Fields.{key_column, val_column}
use Rattle.leaf.proofs.Steps.{two_here, pairs_moved, map_first}
use Rattle.leaf.proofs.move_first_pairs.Goals as goal

pub len-i-requires : goal.len-i-requires
len-i-requires c = (two_here c.requires.holds.two c.requires.arena).0

pub len-old-requires : goal.len-old-requires
len-old-requires c = (two_here c.requires.holds.two c.requires.arena).1

pub move_first-requires : goal.move_first-requires
move_first-requires c =
    let m = c.requires.holds in
    let k = two_here m.two c.requires.arena in
    record { within = (k.0, k.1, m.two.apart); count_bound = (omega (arith, m.fits), omega arith, omega (arith, m.place)) }

pub move_first-requires-2 : goal.move_first-requires-2
move_first-requires-2 c =
    let m = c.requires.holds in
    let k = two_here m.two c.requires.arena in
    record { within = (omega arith, omega arith, m.two.apart); count_bound = (omega (arith, m.fits), omega arith, omega (arith, m.place)) }

pub overflow_add-i : goal.overflow_add-i
overflow_add-i c =
    let m = c.requires.holds in
    let k = two_here m.two c.requires.arena in
    omega (arith, m.fits)

pub set_len-requires : goal.set_len-requires
set_len-requires c =
    let k = two_here c.requires.holds.two c.requires.arena in
    omega arith

pub overflow_sub-old : goal.overflow_sub-old
overflow_sub-old c =
    let m = c.requires.holds in
    let k = two_here m.two c.requires.arena in
    omega (arith, m.place)

pub set_len-requires-2 : goal.set_len-requires-2
set_len-requires-2 c =
    let k = two_here c.requires.holds.two c.requires.arena in
    omega arith

pub returns : goal.returns
returns c =
    λ h ns m a.
    let x = c.args in
    let i = x.count in
    let k = two_here m.two a in
    let ps = (nth ns x.left.0).pairs in
    let qs = (nth ns x.right.0).pairs in
    pairs_moved m.two (λ (s t : List ℕ). s ++ take i t) (λ (s t : List ℕ). drop i t) (λ (s t : List Pair). s ++ take i t) (λ (s t : List Pair). drop i t) c.len-i.result c.len-old.result (c.len-i.result + i) (c.len-old.result - i)
    (omega arith) (omega arith) (λ f. map_first f i ps qs) (λ f. sym (map_drop f i qs))
    (rw length-append (omega (arith, length-take-le i qs m.place))) (simp length-drop (omega arith))
    (λ fs p q s. c.move_first.ensures h fs key_column p q (omega (arith, m.fits)) s)
    (λ fs p q s. c.move_first-2.ensures h fs val_column p q (omega (arith, m.fits)) s)
    (c.set_len.ensures h) (c.set_len-2.ensures h) a
