-- `internal::pop_internal_level` meets its contract: the root's edge is out, its child is unlinked, the root is returned, the header is written.
-- Assumes nothing.
use Prim.Native.Nat.{ℕ, ◌<◌, ◌-◌}
use mathlib.Core.Path.{◌≡◌, sym, ap, ◌∙◌}
use mathlib.Core.List.{List, [], map}
use native.Mathlib.Omega.{arith}
use lib.Dec.{lit<}
use lib.ListN.{length, get_or, set, length-set}
use Rattle.model.specs.Layout.{none, root_word, height_word, NodeVal, nth, Arena}
use Rattle.node.specs.Fields.{Fields, fields_of, edge_column}
use Rattle.node.proofs.Fields.{stored, row_fields}
use Rattle.node.proofs.Reading.{within}
use Rattle.store.specs.Links.{with_edges, link}
use Rattle.store.proofs.Chain.{head_put}
use Rattle.internal.specs.Inner.{PopReady, root_of, height_of, only_child, pop_nodes}
use Rattle.internal.proofs.Edges.{edges_in, edge_removed}
use Rattle.internal.proofs.Stages.{pop_here, bare, to_return}
use Rattle.internal.proofs.pop_internal_level.Goals as goal
use Rattle.internal.proofs.pop_internal_level.Goals.{After-clear_parent_link, After-remove_word, at-After-clear_parent_link}

-- the child, and the arena without the edge that led to it
child : (c : After-remove_word) → let x = c.args in (h : List ℕ) (ns : List NodeVal) (free : List ℕ) → PopReady h ns free → Arena x.a.now h ns → (c.remove_word.result ≡ only_child h ns) × Arena c.remove_word.new.a h (set ns (root_of h) (with_edges (nth ns (root_of h)) []))
child c h ns free q a =
    let e = c.root-top.ensures ∙ (pop_here q a).2 in
    let s = rw e at (c.remove_word.ensures h (map fields_of ns) edge_column (rw e (edges_in ns (root_of h) 1 q.root (sym q.one_edge))) (stored a)) in
    (s.0 ∙ ap (λ (f : Fields). get_or f.edges 0 0) (row_fields ns (root_of h)), rw (bare q) at (edge_removed ns (root_of h) q.root 0 s.1))

-- the child hangs nowhere
apart : (c : After-clear_parent_link) → let x = c.args in (h : List ℕ) (ns : List NodeVal) (free : List ℕ) → PopReady h ns free → Arena x.a.now h ns → Arena c.clear_parent_link.new.a h (link (set ns (root_of h) (with_edges (nth ns (root_of h)) [])) (only_child h ns) none 0)
apart c h ns free q a =
    let d = child (at-After-clear_parent_link c).After-remove_word h ns free q a in
    let o : only_child h ns < length (set ns (root_of h) (with_edges (nth ns (root_of h)) [])) = rw length-set q.child in
    rw d.0 at (c.clear_parent_link.ensures h _ (rw d.0 o) d.1)

pub root-top-requires : goal.root-top-requires
root-top-requires c = let p = c.requires in (pop_here p.holds.1 p.arena).0

pub height-height-requires : goal.height-height-requires
height-height-requires c = let p = c.requires in (pop_here p.holds.1 p.arena).0

pub overflow_sub-height : goal.overflow_sub-height
overflow_sub-height c =
    let k = pop_here c.requires.holds.1 c.requires.arena in
    omega (arith, c.requires.holds.1.height)

pub remove_word-requires : goal.remove_word-requires
remove_word-requires c =
    let k = pop_here c.requires.holds.1 c.requires.arena in
    (rw c.root-top.ensures k.1, omega arith, omega arith)

pub clear_parent_link-requires : goal.clear_parent_link-requires
clear_parent_link-requires c =
    let p = c.requires in
    let d = child (goal.at.clear_parent_link-requires c).After-remove_word p.head p.nodes p.holds.0 p.holds.1 p.arena in
    rw d.0 (within d.1 _ (rw length-set p.holds.1.child))

pub return_node-requires : goal.return_node-requires
return_node-requires c =
    let p = c.requires in
    record { head = p.head; nodes = _; arena = apart (goal.at.return_node-requires c).After-clear_parent_link p.head p.nodes p.holds.0 p.holds.1 p.arena; holds = (p.holds.0, rw (c.root-top.ensures ∙ (pop_here p.holds.1 p.arena).2) (to_return p.holds.1)) }

pub set_root-requires : goal.set_root-requires
set_root-requires c =
    let p = c.requires in
    let k = pop_here p.holds.1 p.arena in
    omega arith

pub returns : goal.returns
unfolding pop_nodes
returns c =
    λ h ns free q a.
    let k = pop_here q a in
    let e = c.root-top.ensures ∙ k.2 in
    let d = (child (goal.at.returns c).After-remove_word h ns free q a).0 in
    let r = rw e at (c.return_node.ensures h _ free (rw e (to_return q)) (apart (goal.at.returns c).After-clear_parent_link h ns free q a)) in
    rw (c.set_root.ensures, d, c.height-height.ensures ∙ k.3) (head_put (head_put r root_word (only_child h ns) (lit< tt)) height_word (height_of h - 1) (lit< tt))
