-- `BalancingContext::bulk_steal_left` meets its contract: the stages, one after the other.
-- Assumes nothing.
use Prim.Native.Nat.{ℕ, ◌+◌, ◌-◌}
use mathlib.Core.Path.{◌≡◌, sym, ap, ◌∙◌}
use mathlib.Core.List.{List, ◌++◌}
use native.Mathlib.Omega.{arith}
use lib.ListN.{length, take, drop}
use Rattle.model.specs.Layout.{NodeVal, nth, Arena}
use Rattle.node.specs.Fields.{edge_column}
use Rattle.node.specs.Reading.{pair_of, pair_at}
use Rattle.node.proofs.Fields.{stored}
use Rattle.node.proofs.Reading.{within}
use Rattle.internal.proofs.Edges.{edges_in, edges_put}
use Rattle.balance.specs.Moves.{edges_with, three, StealReady, moved_bodies}
use Rattle.balance.proofs.Shapes.{shape_here, edges_with_lem, edges_here}
use Rattle.balance.proofs.Moving.{Leaves, P₁, moved_pairs, node_l₄, node_r₄, edges_l₄, edges_r₄, to_bodies, links_r, none_left}
use Rattle.balance.proofs.StealingLeft.{L₁, R₁, to_left₁, to_left₂, to_left₃, to_left₄, left_parent, left_ready₁, left_ready₂, left_ready₃, left_ready₄, left_edges, left_fits, left_stay, left_go, left_count, left_less}
use Rattle.balance.proofs.BalancingContext.bulk_steal_left.Goals as goal
use Rattle.balance.proofs.BalancingContext.bulk_steal_left.Goals.{After-edges_with-right_edges, After-insert_fit, After-move_last, After-move_last_pairs, After-remove-up, After-replace_kv-down, at-After-insert_fit, at-After-move_last, at-After-move_last_pairs, at-After-remove-up, at-After-replace_kv-down}

-- the pairs that stay left
abbrev kept : List NodeVal → ℕ → ℕ → ℕ
kept ns l c = length (nth ns l).pairs - c

kept_is : {ns : List NodeVal} {p i l r c : ℕ} → StealReady ns p i l r l r c → kept ns l c + c ≡ length (nth ns l).pairs
kept_is q = omega (arith, q.has)

-- the numbers that were read
counts : (c : After-edges_with-right_edges) → let x = c.args in (h : List ℕ) (ns : List NodeVal) → StealReady ns x.self.parent.0 x.self.at.0 x.self.left.0 x.self.right.0 x.self.left.0 x.self.right.0 x.count → Arena x.a.now h ns → (c.len.result - x.count ≡ kept ns x.self.left.0 x.count) × (c.edges_with-left_edges.result ≡ edges_with (nth ns x.self.left.0).state (kept ns x.self.left.0 x.count + 1)) × (c.edges_with-moved.result ≡ edges_with (nth ns x.self.left.0).state x.count) × (c.edges_with-right_edges.result ≡ length (nth ns x.self.right.0).edges)
counts c h ns q a =
    let x = c.args in
    let b = q.beside in
    let m : c.len.result - x.count ≡ kept ns x.self.left.0 x.count = ap (λ (t : ℕ). t - x.count) (c.len.ensures ∙ (shape_here b.left a).1) in (
      m,
      edges_with_lem b.left a _ _ c.edges_with-left_edges.ensures ∙ ap (λ (t : ℕ). edges_with (nth ns x.self.left.0).state (t + 1)) m,
      edges_with_lem b.left a _ _ c.edges_with-moved.ensures,
      edges_here b.right a _ _ c.len-old_right_len.ensures c.edges_with-right_edges.ensures,
    )

st₁ : (c : After-remove-up) → let x = c.args in (h : List ℕ) (ns : List NodeVal) → (q : StealReady ns x.self.parent.0 x.self.at.0 x.self.left.0 x.self.right.0 x.self.left.0 x.self.right.0 x.count) → Arena x.a.now h ns → (pair_of c.remove-up.result ≡ pair_at (nth ns x.self.left.0).pairs (kept ns x.self.left.0 x.count)) × Arena c.remove-up.new.a h (three ns x.self.parent.0 x.self.left.0 x.self.right.0 (nth ns x.self.parent.0) (L₁ q _ (kept_is q)) (nth ns x.self.right.0))
st₁ c h ns q a =
    let k = counts (at-After-remove-up c).After-edges_with-right_edges h ns q a in
    let r = rw k.0 at (c.remove-up.ensures h ns (rw k.0 (left_ready₁ q _ (kept_is q))) a) in
    (r.0, rw (to_left₁ q _ (kept_is q)) at r.1)

st₂ : (c : After-replace_kv-down) → let x = c.args in (h : List ℕ) (ns : List NodeVal) → (q : StealReady ns x.self.parent.0 x.self.at.0 x.self.left.0 x.self.right.0 x.self.left.0 x.self.right.0 x.count) → Arena x.a.now h ns → (pair_of c.replace_kv-down.result ≡ pair_at (nth ns x.self.parent.0).pairs x.self.at.0) × Arena c.replace_kv-down.new.a h (three ns x.self.parent.0 x.self.left.0 x.self.right.0 (P₁ ns x.self.parent.0 x.self.at.0 x.self.left.0 x.self.right.0 (kept ns x.self.left.0 x.count)) (L₁ q _ (kept_is q)) (nth ns x.self.right.0))
st₂ c h ns q a =
    let s = st₁ (at-After-replace_kv-down c).After-remove-up h ns q a in
    let r = c.replace_kv-down.ensures h _ (left_ready₂ q _ (kept_is q)) s.1 in
    (r.0 ∙ ap (λ (v : NodeVal). pair_at v.pairs c.args.self.at.0) (left_parent q _ (kept_is q)), rw (to_left₂ q _ (kept_is q) _ s.0) at r.1)

st₃ : (c : After-insert_fit) → let x = c.args in (h : List ℕ) (ns : List NodeVal) → (q : StealReady ns x.self.parent.0 x.self.at.0 x.self.left.0 x.self.right.0 x.self.left.0 x.self.right.0 x.count) → Arena x.a.now h ns → Arena c.insert_fit.new.a h (three ns x.self.parent.0 x.self.left.0 x.self.right.0 (P₁ ns x.self.parent.0 x.self.at.0 x.self.left.0 x.self.right.0 (kept ns x.self.left.0 x.count)) (L₁ q _ (kept_is q)) (R₁ q _ (kept_is q)))
st₃ c h ns q a =
    let s = st₂ (at-After-insert_fit c).After-replace_kv-down h ns q a in
    rw (to_left₃ q _ (kept_is q) _ s.0) at (c.insert_fit.ensures h _ (left_ready₃ q _ (kept_is q)) s.1)

st₄ : (c : After-move_last_pairs) → let x = c.args in Leaves x.a.now c.move_last_pairs.new.a x.self.parent.0 x.self.at.0 x.self.left.0 x.self.right.0 x.self.left.0 x.self.right.0 x.count (λ ns. moved_pairs ns x.self.parent.0 x.self.at.0 x.self.left.0 x.self.right.0 (kept ns x.self.left.0 x.count))
st₄ c h ns q a =
    let k = counts (at-After-move_last_pairs c).After-edges_with-right_edges h ns q a in
    rw (to_left₄ q _ (kept_is q)) at (rw k.0 at (c.move_last_pairs.ensures h _ (rw k.0 (left_ready₄ q _ (kept_is q))) (st₃ (at-After-move_last_pairs c).After-insert_fit h ns q a)))

st₅ : (c : After-move_last) → let x = c.args in Leaves x.a.now c.move_last.new.a x.self.parent.0 x.self.at.0 x.self.left.0 x.self.right.0 x.self.left.0 x.self.right.0 x.count (λ ns. moved_bodies ns x.self.parent.0 x.self.at.0 x.self.left.0 x.self.right.0 (kept ns x.self.left.0 x.count))
st₅ c h ns q a =
    let x = c.args in
    let b = q.beside in
    let m = kept ns x.self.left.0 x.count in
    let k = counts (at-After-move_last c).After-edges_with-right_edges h ns q a in
    let s = moved_pairs ns x.self.parent.0 x.self.at.0 x.self.left.0 x.self.right.0 m in
    let f = left_fits q m (kept_is q) _ _ k.1 k.2 in
    let d = c.move_last.ensures h _ edge_column (edges_in s x.self.left.0 _ (node_l₄ b m) (left_edges q m (kept_is q) _ _ k.1 k.2 ∙ sym (ap length (edges_l₄ b m)))) (edges_in s x.self.right.0 _ (node_r₄ b m) (k.3 ∙ sym (ap length (edges_r₄ b m)))) (omega arith) (stored (st₄ (at-After-move_last c).After-move_last_pairs h ns q a)) in
    rw (to_bodies b m (λ (t u : List ℕ). take c.edges_with-left_edges.result t) (λ (t u : List ℕ). drop c.edges_with-left_edges.result t ++ u) (left_stay q m (kept_is q) _ _ k.1 k.2) (left_go q m (kept_is q) _ _ k.1 k.2)) at (edges_put s x.self.left.0 x.self.right.0 (λ (t u : List ℕ). take c.edges_with-left_edges.result t) (λ (t u : List ℕ). drop c.edges_with-left_edges.result t ++ u) d)

pub len-requires : goal.len-requires
len-requires c = within c.requires.arena _ c.requires.holds.beside.left.node

pub overflow_sub-new_left_len : goal.overflow_sub-new_left_len
overflow_sub-new_left_len c = omega (arith, c.len.ensures, c.requires.holds.has, shape_here c.requires.holds.beside.left c.requires.arena)

pub len-old_right_len-requires : goal.len-old_right_len-requires
len-old_right_len-requires c = within c.requires.arena _ c.requires.holds.beside.right.node

pub edges_with-left_edges-requires : goal.edges_with-left_edges-requires
edges_with-left_edges-requires c = within c.requires.arena _ c.requires.holds.beside.left.node

pub edges_with-moved-requires : goal.edges_with-moved-requires
edges_with-moved-requires c = within c.requires.arena _ c.requires.holds.beside.left.node

pub overflow_add-old_right_len : goal.overflow_add-old_right_len
overflow_add-old_right_len c = omega (arith, c.len-old_right_len.ensures, shape_here c.requires.holds.beside.right c.requires.arena)

pub edges_with-right_edges-requires : goal.edges_with-right_edges-requires
edges_with-right_edges-requires c = within c.requires.arena _ c.requires.holds.beside.right.node

pub remove-up-requires : goal.remove-up-requires
remove-up-requires c =
    let p = c.requires in
    let q = p.holds in
    record { head = p.head; nodes = p.nodes; arena = p.arena; holds = rw (counts (goal.at.remove-up-requires c).After-edges_with-right_edges p.head p.nodes q p.arena).0 (left_ready₁ q _ (kept_is q)) }

pub replace_kv-down-requires : goal.replace_kv-down-requires
replace_kv-down-requires c =
    let p = c.requires in
    let q = p.holds in
    record { head = p.head; nodes = _; arena = (st₁ (goal.at.replace_kv-down-requires c).After-remove-up p.head p.nodes q p.arena).1; holds = left_ready₂ q _ (kept_is q) }

pub insert_fit-requires : goal.insert_fit-requires
insert_fit-requires c =
    let p = c.requires in
    let q = p.holds in
    record { head = p.head; nodes = _; arena = (st₂ (goal.at.insert_fit-requires c).After-replace_kv-down p.head p.nodes q p.arena).1; holds = left_ready₃ q _ (kept_is q) }

pub move_last_pairs-requires : goal.move_last_pairs-requires
move_last_pairs-requires c =
    let p = c.requires in
    let q = p.holds in
    record { head = p.head; nodes = _; arena = st₃ (goal.at.move_last_pairs-requires c).After-insert_fit p.head p.nodes q p.arena; holds = rw (counts (goal.at.move_last_pairs-requires c).After-edges_with-right_edges p.head p.nodes q p.arena).0 (left_ready₄ q _ (kept_is q)) }

pub move_last-requires : goal.move_last-requires
move_last-requires c =
    let p = c.requires in
    let q = p.holds in
    let k = counts (goal.at.move_last-requires c).After-edges_with-right_edges p.head p.nodes q p.arena in
    let s = st₄ (goal.at.move_last-requires c).After-move_last_pairs p.head p.nodes q p.arena in
    let e = left_edges q _ (kept_is q) _ _ k.1 k.2 in
    let f = left_fits q _ (kept_is q) _ _ k.1 k.2 in record { within = (within s _ (node_l₄ q.beside _), within s _ (node_r₄ q.beside _), q.beside.apart); count_bound = (omega (arith, shape_here q.beside.left p.arena), omega arith) }

pub overflow_add-right_edges : goal.overflow_add-right_edges
overflow_add-right_edges c =
    let p = c.requires in
    let q = p.holds in
    let k = counts (goal.at.overflow_add-right_edges c).After-edges_with-right_edges p.head p.nodes q p.arena in
    omega (arith, left_fits q _ (kept_is q) _ _ k.1 k.2)

pub correct_childrens_parent_links-requires : goal.correct_childrens_parent_links-requires
correct_childrens_parent_links-requires c =
    let p = c.requires in
    let q = p.holds in
    let k = counts (goal.at.correct_childrens_parent_links-requires c).After-edges_with-right_edges p.head p.nodes q p.arena in
    (omega arith, record { head = p.head; nodes = _; arena = st₅ (goal.at.correct_childrens_parent_links-requires c).After-move_last p.head p.nodes q p.arena; holds = links_r q.beside _ _ (left_count q _ (kept_is q) _ _ k.1 k.2 _ k.3) })

pub returns : goal.returns
returns c =
    λ h ns q a.
    let k = counts (goal.at.returns c).After-edges_with-right_edges h ns q a in
    rw (none_left q.beside _ (left_less q _ (kept_is q) _ _ k.1 k.2)) at (c.correct_childrens_parent_links.ensures h _ (links_r q.beside _ _ (left_count q _ (kept_is q) _ _ k.1 k.2 _ k.3)) (st₅ (goal.at.returns c).After-move_last h ns q a))
