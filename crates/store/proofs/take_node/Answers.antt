-- `store::take_node` meets its contract.
-- Assumes nothing.
use Prim.Native.Nat.{ℕ, ◌-◌}
use mathlib.Core.Path.{ap}
use native.Mathlib.Omega.{arith}
use lib.ListN.{length-set}
use Rattle.store.proofs.Chain.{take_here, taken_first}
use Rattle.store.proofs.take_node.Goals as goal

pub first_free-requires : goal.first_free-requires
first_free-requires c = (take_here c.requires).0

pub parent-next-requires : goal.parent-next-requires
parent-next-requires c = rw c.first_free.ensures (take_here c.requires).1

pub free_nodes-left-requires : goal.free_nodes-left-requires
free_nodes-left-requires c = (take_here c.requires).0

pub overflow_sub-left : goal.overflow_sub-left
overflow_sub-left c =
    let k = take_here c.requires in
    omega arith

pub node_base-b-requires : goal.node_base-b-requires
node_base-b-requires c =
    let k = take_here c.requires in
    omega arith

pub offset_bounds-a-b : goal.offset_bounds-a-b
offset_bounds-a-b c =
    let k = take_here c.requires in
    omega arith

pub bounds-a-b : goal.bounds-a-b
bounds-a-b c =
    let k = take_here c.requires in
    omega arith

pub offset_bounds-a-b-2 : goal.offset_bounds-a-b-2
offset_bounds-a-b-2 c =
    let k = take_here c.requires in
    omega arith

pub bounds-a-b-2 : goal.bounds-a-b-2
bounds-a-b-2 c =
    let k = take_here c.requires in
    simp length-set (omega arith)

pub set_free_nodes-requires : goal.set_free_nodes-requires
set_free_nodes-requires c =
    let k = take_here c.requires in
    simp length-set (omega arith)

pub returns : goal.returns
returns c =
    λ h ns free r a.
    let b = c.node_base-b in
    let x = c.parent-next in
    let l = c.free_nodes-left in
    rw c.set_free_nodes.ensures (taken_first a free _ b.result x.result (l.result - 1) c.args.state r c.first_free.ensures b.ensures x.ensures (ap (λ (t : ℕ). t - 1) l.ensures))
