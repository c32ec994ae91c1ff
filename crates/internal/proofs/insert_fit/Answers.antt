-- `internal::insert_fit` meets its contract: the pair is in, the edge is in, the children are linked.
-- Assumes nothing.
use Prim.Native.Nat.{ℕ}
use mathlib.Core.Path.{ap}
use mathlib.Core.List.{List}
use native.Mathlib.Omega.{arith}
use lib.ListN.{length}
use Rattle.model.specs.Layout.{NodeVal, Arena}
use Rattle.node.specs.Fields.{edge_column}
use Rattle.node.specs.Reading.{pair_of}
use Rattle.node.proofs.Fields.{stored}
use Rattle.leaf.specs.Pairs.{insert_pair}
use Rattle.internal.specs.Inner.{FitReady, fit_bodies, fit_nodes}
use Rattle.internal.proofs.Edges.{edges_in, edge_inserted}
use Rattle.internal.proofs.Stages.{fit_here, fit_node, fit_edges, fit_bodies_lem, fit_links}
use Rattle.internal.proofs.insert_fit.Goals as goal
use Rattle.internal.proofs.insert_fit.Goals.{After-insert_word}

bodies : (c : After-insert_word) → let x = c.args in (h : List ℕ) (ns : List NodeVal) → FitReady ns x.n.0 x.at.0 x.right.0 → Arena x.a.now h ns → Arena c.insert_word.new.a h (fit_bodies ns x.n.0 x.at.0 (pair_of x.kv) x.right.0)
bodies c h ns q a =
    let x = c.args in
    let p = pair_of x.kv in
    let k = fit_here q a in
    let e = ap length (fit_edges q p) in
    let mid = insert_pair ns x.n.0 x.at.0 p in
    let s = c.insert_word.ensures h _ edge_column (edges_in mid x.n.0 _ (fit_node q p) (omega (arith, c.len-count.ensures, q.branches.edges_are))) (omega (arith, c.len-count.ensures)) (stored (c.insert_fit.ensures h ns q.room a)) in
    rw (fit_bodies_lem q p) at (edge_inserted mid x.n.0 (fit_node q p) _ _ s)

pub len-count-requires : goal.len-count-requires
len-count-requires c = (fit_here c.requires.holds c.requires.arena).0

pub overflow_add-count : goal.overflow_add-count
overflow_add-count c =
    let k = fit_here c.requires.holds c.requires.arena in
    omega (arith, c.len-count.ensures)

pub insert_word-requires : goal.insert_word-requires
insert_word-requires c =
    let k = fit_here c.requires.holds c.requires.arena in
    omega (arith, c.len-count.ensures)

pub overflow_add-count-2 : goal.overflow_add-count-2
overflow_add-count-2 c =
    let k = fit_here c.requires.holds c.requires.arena in
    omega (arith, c.len-count.ensures)

pub correct_childrens_parent_links-requires : goal.correct_childrens_parent_links-requires
correct_childrens_parent_links-requires c =
    let p = c.requires in
    let k = fit_here p.holds p.arena in
    (omega (arith, c.len-count.ensures), record { head = p.head; nodes = _; arena = bodies (goal.at.correct_childrens_parent_links-requires c).After-insert_word p.head p.nodes p.holds p.arena; holds = fit_links p.holds (pair_of c.args.kv) _ (omega (arith, c.len-count.ensures)) })

pub returns : goal.returns
unfolding fit_nodes
returns c =
    λ h ns q a.
    let k = fit_here q a in
    c.correct_childrens_parent_links.ensures h _ (fit_links q (pair_of c.args.kv) _ (omega (arith, c.len-count.ensures))) (bodies (goal.at.returns c).After-insert_word h ns q a)
