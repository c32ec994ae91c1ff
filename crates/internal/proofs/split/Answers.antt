-- `internal::split` meets its contract: a node is taken, the pairs are moved, the edges are, the children are linked.
-- Assumes nothing.
use Prim.Native.Nat.{ℕ, ◌+◌}
use mathlib.Core.Path.{◌≡◌, ap, ◌∙◌}
use mathlib.Core.List.{List, ◌++◌}
use native.Mathlib.Omega.{arith}
use lib.ListN.{length, take, drop}
use Rattle.model.specs.Layout.{internal, NodeVal, Arena}
use Rattle.node.specs.Fields.{edge_column}
use Rattle.node.specs.Reading.{pair_of}
use Rattle.node.proofs.Fields.{stored}
use Rattle.node.proofs.Reading.{within, len_is}
use Rattle.model.specs.Nodes.{taken}
use Rattle.store.specs.Links.{take_head, take_node}
use Rattle.leaf.specs.Split.{CutReady, Cut, cut_bodies, split_nodes}
use Rattle.leaf.proofs.Cutting.{new_other, to_split, pair_same, cut_pairs, pairs_cut}
use Rattle.internal.specs.Inner.{Branches}
use Rattle.internal.proofs.Edges.{edges_in, edges_put}
use Rattle.internal.proofs.Stages.{cut_node_n, cut_node_m, cut_edges_n, cut_edges_m, cut_bodies_lem, cut_links}
use Rattle.internal.proofs.split.Goals as goal
use Rattle.internal.proofs.split.Goals.{After-move_last, After-split_leaf_data-kv, After-take_node-right, at-After-move_last, at-After-split_leaf_data-kv}

-- the node that was taken, and the arena then
new : (c : After-take_node-right) → let x = c.args in (h : List ℕ) (ns : List NodeVal) (free : List ℕ) → CutReady h ns free x.n.0 x.at.0 → Arena x.a.now h ns → (c.take_node-right.result.0 ≡ taken free) × Arena c.take_node-right.new.a (take_head h free) (take_node ns free internal)
new c h ns free r a = c.take_node-right.ensures h ns free r.take a

-- the pair that rises, and the arena with the pairs moved
halves : (c : After-split_leaf_data-kv) → let x = c.args in (h : List ℕ) (ns : List NodeVal) (free : List ℕ) → CutReady h ns free x.n.0 x.at.0 → Arena x.a.now h ns → Cut free ns x.n.0 x.at.0 c.take_node-right.result.0 (pair_of c.split_leaf_data-kv.result) × Arena c.split_leaf_data-kv.new.a (take_head h free) (cut_pairs ns x.n.0 (taken free) x.at.0 internal)
halves c h ns free r a =
    let x = c.args in
    let t = new (at-After-split_leaf_data-kv c).After-take_node-right h ns free r a in
    let d = c.split_leaf_data-kv.ensures (take_head h free) _ (rw t.0 (to_split h ns free x.n.0 x.at.0 internal r)) t.1 in
    (record { right_is = t.0; risen_is = d.0 ∙ pair_same h ns free x.n.0 x.at.0 internal r }, rw (t.0, pairs_cut h ns free x.n.0 x.at.0 internal r) at d.1)

-- and with the edges moved
bodies : (c : After-move_last) → let x = c.args in (h : List ℕ) (ns : List NodeVal) (free : List ℕ) → CutReady h ns free x.n.0 x.at.0 → Branches ns x.n.0 → Arena x.a.now h ns → Arena c.move_last.new.a (take_head h free) (cut_bodies ns x.n.0 (taken free) x.at.0)
bodies c h ns free r b a =
    let x = c.args in
    let d = halves (at-After-move_last c).After-split_leaf_data-kv h ns free r a in
    let m = d.0.right_is in
    let mid = cut_pairs ns x.n.0 (taken free) x.at.0 internal in
    let n = c.len.ensures ∙ len_is a x.n.0 r.node in
    let f = ap length (cut_edges_n r b) in
    let g = ap length (cut_edges_m r b) in
    let z = (a.small x.n.0 r.node).pairs_fit in
    let s = c.move_last.ensures (take_head h free) _ edge_column (edges_in mid x.n.0 _ (cut_node_n r b) (omega (arith, r.place, b.edges_are))) (rw m (edges_in mid (taken free) _ (cut_node_m r b) (omega arith))) (omega arith) (stored d.1) in
    rw (cut_bodies_lem r b) at (edges_put mid x.n.0 (taken free) (λ (s t : List ℕ). take (x.at.0 + 1) s) (λ (s t : List ℕ). drop (x.at.0 + 1) s ++ t) (rw m at s))

pub len-requires : goal.len-requires
len-requires c = within c.requires.arena _ c.requires.holds.0.1.node

pub overflow_sub-count : goal.overflow_sub-count
overflow_sub-count c = omega (arith, c.len.ensures, len_is c.requires.arena _ c.requires.holds.0.1.node, c.requires.holds.0.1.place)

pub split_leaf_data-kv-requires : goal.split_leaf_data-kv-requires
split_leaf_data-kv-requires c =
    let p = c.requires in
    let t = new (goal.at.split_leaf_data-kv-requires c).After-take_node-right p.head p.nodes p.holds.0.0 p.holds.0.1 p.arena in
    record { head = _; nodes = _; arena = t.1; holds = rw t.0 (to_split p.head p.nodes p.holds.0.0 _ _ internal p.holds.0.1) }

pub move_last-requires : goal.move_last-requires
move_last-requires c =
    let p = c.requires in
    let r = p.holds.0.1 in
    let b = p.holds.1 in
    let x = c.args in
    let d = halves (goal.at.move_last-requires c).After-split_leaf_data-kv p.head p.nodes p.holds.0.0 r p.arena in
    let z = (p.arena.small x.n.0 r.node).pairs_fit in
    let n = c.len.ensures ∙ len_is p.arena x.n.0 r.node in
    record { within = (within d.1 _ (cut_node_n r b), rw d.0.right_is (within d.1 _ (cut_node_m r b)), rw d.0.right_is (new_other p.head p.nodes p.holds.0.0 _ _ internal r)); count_bound = (omega (arith, r.place), omega (arith, r.place)) }

pub correct_childrens_parent_links-requires : goal.correct_childrens_parent_links-requires
correct_childrens_parent_links-requires c =
    let p = c.requires in
    let r = p.holds.0.1 in
    let b = p.holds.1 in
    let m = (new (goal.at.correct_childrens_parent_links-requires c).After-take_node-right p.head p.nodes p.holds.0.0 r p.arena).0 in
    let n = c.len.ensures ∙ len_is p.arena c.args.n.0 r.node in
    (omega arith, record { head = _; nodes = _; arena = bodies (goal.at.correct_childrens_parent_links-requires c).After-move_last p.head p.nodes p.holds.0.0 r b p.arena; holds = rw m (cut_links r b _ (omega arith)) })

pub returns : goal.returns
unfolding split_nodes
returns c =
    λ h ns free r b a.
    let x = c.args in
    let d = (halves (goal.at.returns c).After-split_leaf_data-kv h ns free r a).0 in
    let n = c.len.ensures ∙ len_is a x.n.0 r.node in
    (d, rw d.right_is at (c.correct_childrens_parent_links.ensures (take_head h free) _ (rw d.right_is (cut_links r b _ (omega arith))) (bodies (goal.at.returns c).After-move_last h ns free r b a)))
