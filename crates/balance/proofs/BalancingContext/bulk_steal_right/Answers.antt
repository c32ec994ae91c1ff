-- `BalancingContext::bulk_steal_right` meets its contract: the stages, one after the other.
-- Assumes nothing.
use Prim.Native.Nat.{ℕ, suc, ◌+◌, ◌-◌}
use mathlib.Core.Path.{◌≡◌, sym, ap, ◌∙◌, subst}
use mathlib.Core.List.{List, ◌++◌}
use native.Mathlib.Omega.{arith}
use lib.ListN.{length, take, drop}
use Rattle.model.specs.Layout.{NodeVal, nth, Arena}
use Rattle.node.specs.Fields.{edge_column}
use Rattle.node.specs.Reading.{pair_of, pair_at}
use Rattle.node.proofs.Fields.{stored}
use Rattle.node.proofs.Reading.{within}
use Rattle.store.specs.Links.{relink_from}
use Rattle.internal.proofs.Edges.{edges_in, edges_put}
use Rattle.balance.specs.Moves.{edges_with, three, StealReady, moved_bodies, move_nodes}
use Rattle.balance.proofs.Shapes.{shape_here, edges_with_lem, edges_here}
use Rattle.balance.proofs.Moving.{Leaves, P₁, moved_pairs, node_l₄, node_r₄, edges_l₄, edges_r₄, to_bodies, links_l, links_then}
use Rattle.balance.proofs.StealingRight.{L₁, R₁, to_right₁, to_right₂, to_right₃, to_right₄, right_parent, right_ready₁, right_ready₂, right_ready₃, right_ready₄, right_fits, right_some, right_come, right_stay, right_count_l, right_count_r}
use Rattle.balance.proofs.BalancingContext.bulk_steal_right.Goals as goal
use Rattle.balance.proofs.BalancingContext.bulk_steal_right.Goals.{After-correct_childrens_parent_links, After-edges_with-right_edges, After-insert_fit, After-move_first, After-move_first_pairs, After-remove-up, After-replace_kv-down, at-After-correct_childrens_parent_links, at-After-insert_fit, at-After-move_first, at-After-move_first_pairs, at-After-replace_kv-down}

-- the pairs that are left then
abbrev grown : List NodeVal → ℕ → ℕ → ℕ
grown ns l c = length (nth ns l).pairs + c

one_less : {ns : List NodeVal} {p i l r c : ℕ} → StealReady ns p i l r r l c → suc (c - 1) ≡ c
one_less q = omega (arith, q.some)

grown_is : {ns : List NodeVal} {p i l r c : ℕ} → StealReady ns p i l r r l c → grown ns l c ≡ length (nth ns l).pairs + suc (c - 1)
grown_is q = omega (arith, q.some)

-- the numbers that were read
counts : (c : After-edges_with-right_edges) → let x = c.args in (h : List ℕ) (ns : List NodeVal) → StealReady ns x.self.parent.0 x.self.at.0 x.self.left.0 x.self.right.0 x.self.right.0 x.self.left.0 x.count → Arena x.a.now h ns → (c.len-old_left_len.result ≡ length (nth ns x.self.left.0).pairs) × (c.edges_with-left_edges.result ≡ length (nth ns x.self.left.0).edges) × (c.edges_with-moved.result ≡ edges_with (nth ns x.self.left.0).state x.count) × (c.edges_with-right_edges.result ≡ length (nth ns x.self.right.0).edges)
counts c h ns q a =
    let b = q.beside in (
      c.len-old_left_len.ensures ∙ (shape_here b.left a).1,
      edges_here b.left a _ _ c.len-old_left_len.ensures c.edges_with-left_edges.ensures,
      edges_with_lem b.left a _ _ c.edges_with-moved.ensures,
      edges_here b.right a _ _ c.len-old_right_len.ensures c.edges_with-right_edges.ensures,
    )

st₁ : (c : After-remove-up) → let x = c.args in (h : List ℕ) (ns : List NodeVal) → (q : StealReady ns x.self.parent.0 x.self.at.0 x.self.left.0 x.self.right.0 x.self.right.0 x.self.left.0 x.count) → Arena x.a.now h ns → (pair_of c.remove-up.result ≡ pair_at (nth ns x.self.right.0).pairs (x.count - 1)) × Arena c.remove-up.new.a h (three ns x.self.parent.0 x.self.left.0 x.self.right.0 (nth ns x.self.parent.0) (nth ns x.self.left.0) (R₁ q _ _ (one_less q) (grown_is q)))
st₁ c h ns q a =
    let r = c.remove-up.ensures h ns (right_ready₁ q _ _ (one_less q) (grown_is q)) a in
    (r.0, rw (to_right₁ q _ _ (one_less q) (grown_is q)) at r.1)

st₂ : (c : After-replace_kv-down) → let x = c.args in (h : List ℕ) (ns : List NodeVal) → (q : StealReady ns x.self.parent.0 x.self.at.0 x.self.left.0 x.self.right.0 x.self.right.0 x.self.left.0 x.count) → Arena x.a.now h ns → (pair_of c.replace_kv-down.result ≡ pair_at (nth ns x.self.parent.0).pairs x.self.at.0) × Arena c.replace_kv-down.new.a h (three ns x.self.parent.0 x.self.left.0 x.self.right.0 (P₁ ns x.self.parent.0 x.self.at.0 x.self.left.0 x.self.right.0 (grown ns x.self.left.0 x.count)) (nth ns x.self.left.0) (R₁ q _ _ (one_less q) (grown_is q)))
st₂ c h ns q a =
    let s = st₁ (at-After-replace_kv-down c).After-remove-up h ns q a in
    let r = c.replace_kv-down.ensures h _ (right_ready₂ q _ _ (one_less q) (grown_is q)) s.1 in
    (r.0 ∙ ap (λ (v : NodeVal). pair_at v.pairs c.args.self.at.0) (right_parent q _ _ (one_less q) (grown_is q)), rw (to_right₂ q _ _ (one_less q) (grown_is q) _ s.0) at r.1)

st₃ : (c : After-insert_fit) → let x = c.args in (h : List ℕ) (ns : List NodeVal) → (q : StealReady ns x.self.parent.0 x.self.at.0 x.self.left.0 x.self.right.0 x.self.right.0 x.self.left.0 x.count) → Arena x.a.now h ns → Arena c.insert_fit.new.a h (three ns x.self.parent.0 x.self.left.0 x.self.right.0 (P₁ ns x.self.parent.0 x.self.at.0 x.self.left.0 x.self.right.0 (grown ns x.self.left.0 x.count)) (L₁ q _ _ (one_less q) (grown_is q)) (R₁ q _ _ (one_less q) (grown_is q)))
st₃ c h ns q a =
    let k = counts (at-After-insert_fit c).After-edges_with-right_edges h ns q a in
    let s = st₂ (at-After-insert_fit c).After-replace_kv-down h ns q a in
    subst (Arena c.insert_fit.new.a h) (to_right₃ q _ _ (one_less q) (grown_is q) _ _ k.0 s.0) (c.insert_fit.ensures h _ (right_ready₃ q _ _ (one_less q) (grown_is q) _ k.0) s.1)

st₄ : (c : After-move_first_pairs) → let x = c.args in Leaves x.a.now c.move_first_pairs.new.a x.self.parent.0 x.self.at.0 x.self.left.0 x.self.right.0 x.self.right.0 x.self.left.0 x.count (λ ns. moved_pairs ns x.self.parent.0 x.self.at.0 x.self.left.0 x.self.right.0 (grown ns x.self.left.0 x.count))
st₄ c h ns q a =
    rw (to_right₄ q _ _ (one_less q) (grown_is q)) at (c.move_first_pairs.ensures h _ (right_ready₄ q _ _ (one_less q) (grown_is q)) (st₃ (at-After-move_first_pairs c).After-insert_fit h ns q a))

st₅ : (c : After-move_first) → let x = c.args in Leaves x.a.now c.move_first.new.a x.self.parent.0 x.self.at.0 x.self.left.0 x.self.right.0 x.self.right.0 x.self.left.0 x.count (λ ns. moved_bodies ns x.self.parent.0 x.self.at.0 x.self.left.0 x.self.right.0 (grown ns x.self.left.0 x.count))
st₅ c h ns q a =
    let x = c.args in
    let b = q.beside in
    let m = grown ns x.self.left.0 x.count in
    let k = counts (at-After-move_first c).After-edges_with-right_edges h ns q a in
    let s = moved_pairs ns x.self.parent.0 x.self.at.0 x.self.left.0 x.self.right.0 m in
    let f = right_fits q _ _ (one_less q) (grown_is q) _ k.2 in
    let d = c.move_first.ensures h _ edge_column (edges_in s x.self.left.0 _ (node_l₄ b m) (k.1 ∙ sym (ap length (edges_l₄ b m)))) (edges_in s x.self.right.0 _ (node_r₄ b m) (k.3 ∙ sym (ap length (edges_r₄ b m)))) (omega arith) (stored (st₄ (at-After-move_first c).After-move_first_pairs h ns q a)) in
    rw (to_bodies b m (λ (t u : List ℕ). t ++ take c.edges_with-moved.result u) (λ (t u : List ℕ). drop c.edges_with-moved.result u) (right_come q _ _ (one_less q) (grown_is q) _ k.2) (right_stay q _ _ (one_less q) (grown_is q) _ k.2)) at (edges_put s x.self.left.0 x.self.right.0 (λ (t u : List ℕ). t ++ take c.edges_with-moved.result u) (λ (t u : List ℕ). drop c.edges_with-moved.result u) d)

st₆ : (c : After-correct_childrens_parent_links) → let x = c.args in Leaves x.a.now c.correct_childrens_parent_links.new.a x.self.parent.0 x.self.at.0 x.self.left.0 x.self.right.0 x.self.right.0 x.self.left.0 x.count (λ ns. relink_from (moved_bodies ns x.self.parent.0 x.self.at.0 x.self.left.0 x.self.right.0 (grown ns x.self.left.0 x.count)) x.self.left.0 (length (nth ns x.self.left.0).edges))
st₆ c h ns q a =
    let k = counts (at-After-correct_childrens_parent_links c).After-edges_with-right_edges h ns q a in
    rw k.1 at (c.correct_childrens_parent_links.ensures h _ (links_l q.beside _ _ (right_count_l q _ _ (one_less q) (grown_is q) _ k.2 _ k.1)) (st₅ (at-After-correct_childrens_parent_links c).After-move_first h ns q a))

pub len-old_left_len-requires : goal.len-old_left_len-requires
len-old_left_len-requires c = within c.requires.arena _ c.requires.holds.beside.left.node

pub len-old_right_len-requires : goal.len-old_right_len-requires
len-old_right_len-requires c = within c.requires.arena _ c.requires.holds.beside.right.node

pub overflow_add-old_left_len : goal.overflow_add-old_left_len
overflow_add-old_left_len c = omega (arith, c.len-old_left_len.ensures, shape_here c.requires.holds.beside.left c.requires.arena)

pub edges_with-left_edges-requires : goal.edges_with-left_edges-requires
edges_with-left_edges-requires c = within c.requires.arena _ c.requires.holds.beside.left.node

pub edges_with-moved-requires : goal.edges_with-moved-requires
edges_with-moved-requires c = within c.requires.arena _ c.requires.holds.beside.left.node

pub overflow_add-old_right_len : goal.overflow_add-old_right_len
overflow_add-old_right_len c = omega (arith, c.len-old_right_len.ensures, shape_here c.requires.holds.beside.right c.requires.arena)

pub edges_with-right_edges-requires : goal.edges_with-right_edges-requires
edges_with-right_edges-requires c = within c.requires.arena _ c.requires.holds.beside.right.node

pub insert_fit-requires : goal.insert_fit-requires
insert_fit-requires c =
    let p = c.requires in
    let q = p.holds in
    record { head = p.head; nodes = _; arena = (st₂ (goal.at.insert_fit-requires c).After-replace_kv-down p.head p.nodes q p.arena).1; holds = right_ready₃ q _ _ (one_less q) (grown_is q) _ (counts (goal.at.insert_fit-requires c).After-edges_with-right_edges p.head p.nodes q p.arena).0 }

pub move_first_pairs-requires : goal.move_first_pairs-requires
move_first_pairs-requires c =
    let p = c.requires in
    let q = p.holds in
    record { head = p.head; nodes = _; arena = st₃ (goal.at.move_first_pairs-requires c).After-insert_fit p.head p.nodes q p.arena; holds = right_ready₄ q _ _ (one_less q) (grown_is q) }

pub move_first-requires : goal.move_first-requires
move_first-requires c =
    let p = c.requires in
    let q = p.holds in
    let k = counts (goal.at.move_first-requires c).After-edges_with-right_edges p.head p.nodes q p.arena in
    let s = st₄ (goal.at.move_first-requires c).After-move_first_pairs p.head p.nodes q p.arena in
    let e = right_some q _ _ (one_less q) (grown_is q) _ k.2 in
    let f = right_fits q _ _ (one_less q) (grown_is q) _ k.2 in record { within = (within s _ (node_l₄ q.beside _), within s _ (node_r₄ q.beside _), q.beside.apart); count_bound = (omega arith, omega (arith, shape_here q.beside.right p.arena), omega arith) }

pub overflow_add-left_edges : goal.overflow_add-left_edges
overflow_add-left_edges c =
    let p = c.requires in
    let q = p.holds in
    let k = counts (goal.at.overflow_add-left_edges c).After-edges_with-right_edges p.head p.nodes q p.arena in
    omega (arith, right_fits q _ _ (one_less q) (grown_is q) _ k.2)

pub correct_childrens_parent_links-requires : goal.correct_childrens_parent_links-requires
correct_childrens_parent_links-requires c =
    let p = c.requires in
    let q = p.holds in
    let k = counts (goal.at.correct_childrens_parent_links-requires c).After-edges_with-right_edges p.head p.nodes q p.arena in
    (omega arith, record { head = p.head; nodes = _; arena = st₅ (goal.at.correct_childrens_parent_links-requires c).After-move_first p.head p.nodes q p.arena; holds = links_l q.beside _ _ (right_count_l q _ _ (one_less q) (grown_is q) _ k.2 _ k.1) })

pub overflow_sub-right_edges : goal.overflow_sub-right_edges
overflow_sub-right_edges c =
    let p = c.requires in
    let q = p.holds in
    let k = counts (goal.at.overflow_sub-right_edges c).After-edges_with-right_edges p.head p.nodes q p.arena in
    omega (arith, right_some q _ _ (one_less q) (grown_is q) _ k.2)

pub correct_childrens_parent_links-requires-2 : goal.correct_childrens_parent_links-requires-2
correct_childrens_parent_links-requires-2 c =
    let p = c.requires in
    let q = p.holds in
    let k = counts (goal.at.correct_childrens_parent_links-requires-2 c).After-edges_with-right_edges p.head p.nodes q p.arena in
    (omega arith, record { head = p.head; nodes = _; arena = st₆ (goal.at.correct_childrens_parent_links-requires-2 c).After-correct_childrens_parent_links p.head p.nodes q p.arena; holds = links_then q.beside _ _ (length (nth p.nodes c.args.self.left.0).edges) (right_count_r q _ _ (one_less q) (grown_is q) _ k.2 _ k.3) })

pub returns : goal.returns
unfolding move_nodes
returns c =
    λ h ns q a.
    let k = counts (goal.at.returns c).After-edges_with-right_edges h ns q a in
    c.correct_childrens_parent_links-2.ensures h _ (links_then q.beside _ _ (length (nth ns c.args.self.left.0).edges) (right_count_r q _ _ (one_less q) (grown_is q) _ k.2 _ k.3)) (st₆ (goal.at.returns c).After-correct_childrens_parent_links h ns q a)
