-- `leaf::move_last_pairs` meets its contract.
-- Assumes nothing.
use Prim.Native.Nat.{ℕ, ◌+◌, ◌-◌}
use mathlib.Core.Path.{sym}
use mathlib.Core.List.{List, ◌++◌}
use native.Mathlib.Omega.{arith}
use lib.ListN.{take, drop, length-append, length-drop}
use lib.Seq.{length-take-le}
use Rattle.model.specs.Tree.{Pair}
use Rattle.model.specs.Layout.{nth}
use Rattle.slices.proofs.Laws.{map_take}
use Rattle.node.specs.Fields.{key_column, val_column}
use Rattle.leaf.proofs.Steps.{two_here, pairs_moved, map_last}
use Rattle.leaf.proofs.move_last_pairs.Goals as goal

pub len-requires : goal.len-requires
len-requires c = (two_here c.requires.holds.two c.requires.arena).0

pub overflow_sub-count : goal.overflow_sub-count
overflow_sub-count c =
    let k = two_here c.requires.holds.two c.requires.arena in
    omega (arith, c.requires.holds.place)

pub len-old-requires : goal.len-old-requires
len-old-requires c = (two_here c.requires.holds.two c.requires.arena).1

pub move_last-requires : goal.move_last-requires
move_last-requires c =
    let m = c.requires.holds in
    let k = two_here m.two c.requires.arena in
    record { within = (k.0, k.1, m.two.apart); count_bound = (omega (arith, m.place, m.fits), omega (arith, m.place, m.fits)) }

pub move_last-requires-2 : goal.move_last-requires-2
move_last-requires-2 c =
    let m = c.requires.holds in
    let k = two_here m.two c.requires.arena in
    record { within = (omega arith, omega arith, m.two.apart); count_bound = (omega (arith, m.place, m.fits), omega (arith, m.place, m.fits)) }

pub set_len-requires : goal.set_len-requires
set_len-requires c =
    let k = two_here c.requires.holds.two c.requires.arena in
    omega arith

pub overflow_add-old : goal.overflow_add-old
overflow_add-old c =
    let m = c.requires.holds in
    let k = two_here m.two c.requires.arena in
    omega (arith, m.place, m.fits)

pub set_len-requires-2 : goal.set_len-requires-2
set_len-requires-2 c =
    let k = two_here c.requires.holds.two c.requires.arena in
    omega arith

pub returns : goal.returns
returns c =
    λ h ns m a.
    let x = c.args in
    let i = x.from.0 in
    let k = two_here m.two a in
    let ps = (nth ns x.left.0).pairs in
    let qs = (nth ns x.right.0).pairs in
    pairs_moved m.two (λ (s t : List ℕ). take i s) (λ (s t : List ℕ). drop i s ++ t) (λ (s t : List Pair). take i s) (λ (s t : List Pair). drop i s ++ t) (i + (c.len.result - i)) c.len-old.result i (c.len-old.result + (c.len.result - i))
    (omega (arith, m.place)) (omega arith) (λ f. sym (map_take f i ps)) (λ f. map_last f i ps qs)
    (sym (length-take-le i ps m.place)) (simp (length-append, length-drop) (omega arith))
    (λ fs p q s. c.move_last.ensures h fs key_column p q (omega (arith, m.place, m.fits)) s)
    (λ fs p q s. c.move_last-2.ensures h fs val_column p q (omega (arith, m.place, m.fits)) s)
    (c.set_len.ensures h) (c.set_len-2.ensures h) a
