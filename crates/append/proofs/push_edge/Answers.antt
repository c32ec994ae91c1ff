-- `append::push_edge` meets its contract: the pair is in, the edge is in, the child is linked.
-- Assumes nothing.
use Prim.Native.Nat.{ℕ}
use mathlib.Core.Path.{ap}
use mathlib.Core.List.{List}
use native.Mathlib.Omega.{arith}
use lib.ListN.{length}
use Rattle.model.specs.Layout.{NodeVal, Arena}
use Rattle.node.specs.Fields.{edge_column}
use Rattle.node.specs.Reading.{pair_of}
use Rattle.node.proofs.Fields.{stored}
use Rattle.leaf.specs.Pairs.{insert_pair}
use Rattle.internal.specs.Inner.{FitReady, fit_bodies, fit_nodes}
use Rattle.internal.proofs.Edges.{edges_in, edge_inserted}
use Rattle.internal.proofs.Stages.{fit_here, fit_node, fit_edges, fit_bodies_lem, fit_links}
use Rattle.append.proofs.push_edge.Goals as goal
use Rattle.append.proofs.push_edge.Goals.{After-insert_word}

bodies : (c : After-insert_word) → let x = c.args in (h : List ℕ) (ns : List NodeVal) → FitReady ns x.n.0 x.count x.right.0 → Arena x.a.now h ns → Arena c.insert_word.new.a h (fit_bodies ns x.n.0 x.count (pair_of x.kv) x.right.0)
bodies c h ns q a =
    let x = c.args in
    let p = pair_of x.kv in
    let k = fit_here q a in
    let l = c.requires.1 in
    let e = ap length (fit_edges q p) in
    let mid = insert_pair ns x.n.0 x.count p in
    let s = c.insert_word.ensures h _ edge_column (edges_in mid x.n.0 _ (fit_node q p) (omega (arith, q.branches.edges_are))) (omega arith) (stored (c.push_pair.ensures h ns q.room a)) in
    rw (fit_bodies_lem q p) at (edge_inserted mid x.n.0 (fit_node q p) _ _ s)

pub insert_word-requires : goal.insert_word-requires
insert_word-requires c =
    let p = c.requires.0 in
    let k = fit_here p.holds p.arena in
    omega (arith, c.requires.1)

pub overflow_add-next-2 : goal.overflow_add-next-2
overflow_add-next-2 c =
    let p = c.requires.0 in
    let k = fit_here p.holds p.arena in
    omega (arith, c.requires.1)

pub correct_childrens_parent_links-requires : goal.correct_childrens_parent_links-requires
correct_childrens_parent_links-requires c =
    let x = c in
    let p = x.requires.0 in
    let k = fit_here p.holds p.arena in
    (omega arith, record { head = p.head; nodes = _; arena = bodies (goal.at.correct_childrens_parent_links-requires c).After-insert_word p.head p.nodes p.holds p.arena; holds = fit_links p.holds (pair_of x.args.kv) _ (omega (arith, x.requires.1)) })

pub returns : goal.returns
unfolding fit_nodes
returns c =
    λ h ns q a.
    let x = c in
    let k = fit_here q a in
    c.correct_childrens_parent_links.ensures h _ (fit_links q (pair_of x.args.kv) _ (omega (arith, x.requires.1))) (bodies (goal.at.returns c).After-insert_word h ns q a)
