-- `internal::new_internal` meets its contract: a node is taken, its edge is in, the node below is linked.
-- Assumes nothing.
use Prim.Native.Nat.{ℕ, ◌<◌}
use mathlib.Core.Path.{◌≡◌, sym, ap}
use mathlib.Core.List.{List, [], ◌∷◌}
use native.Mathlib.Omega.{arith}
use lib.Dec.{lit<}
use lib.ListN.{length, set, length-set}
use Rattle.model.specs.Layout.{internal, NodeVal, Arena}
use Rattle.node.specs.Fields.{edge_column}
use Rattle.node.proofs.Fields.{stored}
use Rattle.node.proofs.Reading.{within}
use Rattle.model.specs.Nodes.{taken}
use Rattle.store.specs.Links.{with_edges, fresh, take_head, take_node}
use Rattle.store.proofs.Chain.{take_in}
use Rattle.internal.specs.Inner.{CrownReady, crown_nodes}
use Rattle.internal.proofs.Edges.{edges_in, edge_inserted}
use Rattle.internal.proofs.Stages.{top_edges, top_body}
use Rattle.internal.proofs.new_internal.Goals as goal
use Rattle.internal.proofs.new_internal.Goals.{After-insert_word, After-take_node-top, at-After-insert_word}

-- the node that was taken, and the arena then
new : (c : After-take_node-top) → let x = c.args in (h : List ℕ) (ns : List NodeVal) (free : List ℕ) → CrownReady h ns free x.child.0 → Arena x.a.now h ns → (c.take_node-top.result.0 ≡ taken free) × Arena c.take_node-top.new.a (take_head h free) (take_node ns free internal)
new c h ns free q a = c.take_node-top.ensures h ns free q.take a

-- and with its edge
top : (c : After-insert_word) → let x = c.args in (h : List ℕ) (ns : List NodeVal) (free : List ℕ) → CrownReady h ns free x.child.0 → Arena x.a.now h ns → Arena c.insert_word.new.a (take_head h free) (set ns (taken free) (with_edges (fresh internal) (x.child.0 ∷ [])))
top c h ns free q a =
    let n = new (at-After-insert_word c).After-take_node-top h ns free q a in
    let mid = take_node ns free internal in
    let o : taken free < length mid = rw length-set (take_in q.take) in
    let e = sym (ap length (top_edges q.take)) in
    let s = c.insert_word.ensures (take_head h free) _ edge_column (rw n.0 (edges_in mid (taken free) 0 o e)) (lit< tt) (stored n.1) in
    rw (top_body q.take) at (edge_inserted mid (taken free) o 0 _ (rw n.0 at s))

pub insert_word-requires : goal.insert_word-requires
insert_word-requires c =
    let p = c.requires in
    let n = new (goal.at.insert_word-requires c).After-take_node-top p.head p.nodes p.holds.0 p.holds.1 p.arena in
    (rw n.0 (within n.1 _ (rw length-set (take_in p.holds.1.take))), lit< tt, omega arith)

pub set_parent_link-requires : goal.set_parent_link-requires
set_parent_link-requires c =
    let p = c.requires in
    within (top (goal.at.set_parent_link-requires c).After-insert_word p.head p.nodes p.holds.0 p.holds.1 p.arena) _ (rw length-set p.holds.1.node)

pub returns : goal.returns
unfolding crown_nodes
returns c =
    λ h ns free q a.
    let n = (new (goal.at.returns c).After-take_node-top h ns free q a).0 in
    let l = c.set_parent_link.ensures (take_head h free) _ (rw length-set q.node) (top (goal.at.returns c).After-insert_word h ns free q a) in
    (n, rw n at l)
