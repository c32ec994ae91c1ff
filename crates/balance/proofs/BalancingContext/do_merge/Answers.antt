-- `BalancingContext::do_merge` meets its contract: the stages, one after the other.
-- Assumes nothing.
use Prim.Native.Nat.{ℕ, ◌+◌}
use mathlib.Core.Path.{◌≡◌, sym, ap, ◌∙◌}
use mathlib.Core.List.{List, ◌++◌}
use native.Mathlib.Omega.{arith}
use lib.ListN.{length, take, drop}
use Rattle.model.specs.Layout.{NodeVal, nth, Arena}
use Rattle.node.specs.Fields.{edge_column}
use Rattle.node.specs.Reading.{pair_of, pair_at}
use Rattle.node.proofs.Fields.{stored}
use Rattle.node.proofs.Reading.{within, len_is}
use Rattle.store.specs.Links.{relink_from}
use Rattle.internal.proofs.Edges.{edges_in, edge_removed, edges_put}
use Rattle.balance.specs.Moves.{MergeReady, merged_bodies, merged_links, merge_nodes}
use Rattle.balance.proofs.Shapes.{shape_here, edges_here}
use Rattle.balance.proofs.Merging.{Leaves, s₁, s₂, s₃, s₄, to_s₁, to_s₂, to_s₃, to_s₄, to_bodies, ready₁, ready₂, ready₃, node₃, edges₃, node₄_l, node₄_r, edges₄_l, edges₄_r, links_fit, links_l, links_p, to_return}
use Rattle.balance.proofs.BalancingContext.do_merge.Goals as goal
use Rattle.balance.proofs.BalancingContext.do_merge.Goals.{After-correct_childrens_parent_links, After-correct_childrens_parent_links-2, After-edges_with-right_edges, After-insert_fit, After-move_first, After-move_first_pairs, After-remove-kv, After-remove_word, at-After-correct_childrens_parent_links, at-After-correct_childrens_parent_links-2, at-After-insert_fit, at-After-move_first, at-After-move_first_pairs, at-After-remove_word}

-- the numbers that were read
counts : (c : After-edges_with-right_edges) → let x = c.args in (h : List ℕ) (ns : List NodeVal) (free : List ℕ) → MergeReady h ns free x.self.parent.0 x.self.at.0 x.self.left.0 x.self.right.0 → Arena x.a.now h ns → (c.len-old_parent_len.result ≡ length (nth ns x.self.parent.0).pairs) × (c.len-old_left_len.result ≡ length (nth ns x.self.left.0).pairs) × (c.len-right_len.result ≡ length (nth ns x.self.right.0).pairs) × (c.edges_with-left_edges.result ≡ length (nth ns x.self.left.0).edges) × (c.edges_with-right_edges.result ≡ length (nth ns x.self.right.0).edges) × (length (nth ns x.self.parent.0).edges ≡ length (nth ns x.self.parent.0).pairs + 1)
counts c h ns free q a =
    let b = q.beside in (
      c.len-old_parent_len.ensures ∙ len_is a _ b.parent,
      c.len-old_left_len.ensures ∙ (shape_here b.left a).1,
      c.len-right_len.ensures ∙ (shape_here b.right a).1,
      edges_here b.left a _ _ c.len-old_left_len.ensures c.edges_with-left_edges.ensures,
      edges_here b.right a _ _ c.len-right_len.ensures c.edges_with-right_edges.ensures,
      b.branches.edges_are,
    )

st₁ : (c : After-remove-kv) → let x = c.args in (h : List ℕ) (ns : List NodeVal) (free : List ℕ) → MergeReady h ns free x.self.parent.0 x.self.at.0 x.self.left.0 x.self.right.0 → Arena x.a.now h ns → (pair_of c.remove-kv.result ≡ pair_at (nth ns x.self.parent.0).pairs x.self.at.0) × Arena c.remove-kv.new.a h (s₁ ns x.self.parent.0 x.self.at.0 x.self.left.0 x.self.right.0)
st₁ c h ns free q a =
    let r = c.remove-kv.ensures h ns (ready₁ q) a in
    (r.0, rw (to_s₁ q) at r.1)

st₂ : (c : After-insert_fit) → let x = c.args in Leaves x.a.now c.insert_fit.new.a x.self.parent.0 x.self.at.0 x.self.left.0 x.self.right.0 (λ h ns. s₂ ns x.self.parent.0 x.self.at.0 x.self.left.0 x.self.right.0)
st₂ c h ns free q a =
    let k = counts (at-After-insert_fit c).After-edges_with-right_edges h ns free q a in
    let s = st₁ (at-After-insert_fit c).After-remove-kv h ns free q a in
    rw (to_s₂ q _ _ k.1 s.0) at (c.insert_fit.ensures h _ (ready₂ q _ k.1) s.1)

st₃ : (c : After-move_first_pairs) → let x = c.args in Leaves x.a.now c.move_first_pairs.new.a x.self.parent.0 x.self.at.0 x.self.left.0 x.self.right.0 (λ h ns. s₃ ns x.self.parent.0 x.self.at.0 x.self.left.0 x.self.right.0)
st₃ c h ns free q a =
    let k = counts (at-After-move_first_pairs c).After-edges_with-right_edges h ns free q a in
    rw (to_s₃ q _ k.2) at (c.move_first_pairs.ensures h _ (ready₃ q _ k.2) (st₂ (at-After-move_first_pairs c).After-insert_fit h ns free q a))

st₄ : (c : After-remove_word) → let x = c.args in Leaves x.a.now c.remove_word.new.a x.self.parent.0 x.self.at.0 x.self.left.0 x.self.right.0 (λ h ns. s₄ ns x.self.parent.0 x.self.at.0 x.self.left.0 x.self.right.0)
st₄ c h ns free q a =
    let x = c.args in
    let k = counts (at-After-remove_word c).After-edges_with-right_edges h ns free q a in
    let s = s₃ ns x.self.parent.0 x.self.at.0 x.self.left.0 x.self.right.0 in
    let e = ap length (edges₃ q) in
    rw (to_s₄ q) at (edge_removed s x.self.parent.0 (node₃ q) _ (c.remove_word.ensures h _ edge_column (edges_in s x.self.parent.0 _ (node₃ q) (omega arith)) (stored (st₃ (at-After-remove_word c).After-move_first_pairs h ns free q a))).1)

st₅ : (c : After-move_first) → let x = c.args in Leaves x.a.now c.move_first.new.a x.self.parent.0 x.self.at.0 x.self.left.0 x.self.right.0 (λ h ns. merged_bodies ns x.self.parent.0 x.self.at.0 x.self.left.0 x.self.right.0)
st₅ c h ns free q a =
    let x = c.args in
    let k = counts (at-After-move_first c).After-edges_with-right_edges h ns free q a in
    let s = s₄ ns x.self.parent.0 x.self.at.0 x.self.left.0 x.self.right.0 in
    let m = c.move_first.ensures h _ edge_column (edges_in s x.self.left.0 _ (node₄_l q) (k.3 ∙ sym (ap length (edges₄_l q)))) (edges_in s x.self.right.0 _ (node₄_r q) (k.4 ∙ sym (ap length (edges₄_r q)))) (omega (arith, links_fit q)) (stored (st₄ (at-After-move_first c).After-remove_word h ns free q a)) in
    rw (to_bodies q _ k.4) at (edges_put s x.self.left.0 x.self.right.0 (λ (t u : List ℕ). t ++ take c.edges_with-right_edges.result u) (λ (t u : List ℕ). drop c.edges_with-right_edges.result u) m)

st₆ : (c : After-correct_childrens_parent_links) → let x = c.args in Leaves x.a.now c.correct_childrens_parent_links.new.a x.self.parent.0 x.self.at.0 x.self.left.0 x.self.right.0 (λ h ns. relink_from (merged_bodies ns x.self.parent.0 x.self.at.0 x.self.left.0 x.self.right.0) x.self.left.0 (length (nth ns x.self.left.0).edges))
st₆ c h ns free q a =
    let k = counts (at-After-correct_childrens_parent_links c).After-edges_with-right_edges h ns free q a in
    rw k.3 at (c.correct_childrens_parent_links.ensures h _ (links_l q _ (omega arith)) (st₅ (at-After-correct_childrens_parent_links c).After-move_first h ns free q a))

st₇ : (c : After-correct_childrens_parent_links-2) → let x = c.args in Leaves x.a.now c.correct_childrens_parent_links-2.new.a x.self.parent.0 x.self.at.0 x.self.left.0 x.self.right.0 (λ h ns. merged_links ns x.self.parent.0 x.self.at.0 x.self.left.0 x.self.right.0)
st₇ c h ns free q a =
    let k = counts (at-After-correct_childrens_parent_links-2 c).After-edges_with-right_edges h ns free q a in
    c.correct_childrens_parent_links-2.ensures h _ (links_p q _ k.0) (st₆ (at-After-correct_childrens_parent_links-2 c).After-correct_childrens_parent_links h ns free q a)

pub len-old_parent_len-requires : goal.len-old_parent_len-requires
len-old_parent_len-requires c = within c.requires.arena _ c.requires.holds.1.beside.parent

pub len-old_left_len-requires : goal.len-old_left_len-requires
len-old_left_len-requires c = within c.requires.arena _ c.requires.holds.1.beside.left.node

pub len-right_len-requires : goal.len-right_len-requires
len-right_len-requires c = within c.requires.arena _ c.requires.holds.1.beside.right.node

pub overflow_add-old_left_len : goal.overflow_add-old_left_len
overflow_add-old_left_len c = omega (arith, c.len-old_left_len.ensures, shape_here c.requires.holds.1.beside.left c.requires.arena)

pub edges_with-left_edges-requires : goal.edges_with-left_edges-requires
edges_with-left_edges-requires c = within c.requires.arena _ c.requires.holds.1.beside.left.node

pub overflow_add-right_len : goal.overflow_add-right_len
overflow_add-right_len c = omega (arith, c.len-right_len.ensures, shape_here c.requires.holds.1.beside.right c.requires.arena)

pub edges_with-right_edges-requires : goal.edges_with-right_edges-requires
edges_with-right_edges-requires c = within c.requires.arena _ c.requires.holds.1.beside.right.node

pub insert_fit-requires : goal.insert_fit-requires
insert_fit-requires c =
    let p = c.requires in
    let q = p.holds.1 in
    let k = counts (goal.at.insert_fit-requires c).After-edges_with-right_edges p.head p.nodes p.holds.0 q p.arena in
    record { head = p.head; nodes = _; arena = (st₁ (goal.at.insert_fit-requires c).After-remove-kv p.head p.nodes p.holds.0 q p.arena).1; holds = ready₂ q _ k.1 }

pub move_first_pairs-requires : goal.move_first_pairs-requires
move_first_pairs-requires c =
    let p = c.requires in
    let q = p.holds.1 in
    let k = counts (goal.at.move_first_pairs-requires c).After-edges_with-right_edges p.head p.nodes p.holds.0 q p.arena in
    record { head = p.head; nodes = _; arena = st₂ (goal.at.move_first_pairs-requires c).After-insert_fit p.head p.nodes p.holds.0 q p.arena; holds = ready₃ q _ k.2 }

pub overflow_add-old_parent_len : goal.overflow_add-old_parent_len
overflow_add-old_parent_len c =
    let p = c.requires in
    let k = counts (goal.at.overflow_add-old_parent_len c).After-edges_with-right_edges p.head p.nodes p.holds.0 p.holds.1 p.arena in
    omega (arith, (p.arena.small _ p.holds.1.beside.parent).pairs_fit)

pub remove_word-requires : goal.remove_word-requires
remove_word-requires c =
    let p = c.requires in
    let q = p.holds.1 in
    let k = counts (goal.at.remove_word-requires c).After-edges_with-right_edges p.head p.nodes p.holds.0 q p.arena in
    let f = (p.arena.small _ q.beside.parent).pairs_fit in
    (within (st₃ (goal.at.remove_word-requires c).After-move_first_pairs p.head p.nodes p.holds.0 q p.arena) _ (node₃ q), omega arith, omega (arith, q.beside.place))

pub move_first-requires : goal.move_first-requires
move_first-requires c =
    let p = c.requires in
    let q = p.holds.1 in
    let k = counts (goal.at.move_first-requires c).After-edges_with-right_edges p.head p.nodes p.holds.0 q p.arena in
    let s = st₄ (goal.at.move_first-requires c).After-remove_word p.head p.nodes p.holds.0 q p.arena in
    let f = links_fit q in record { within = (within s _ (node₄_l q), within s _ (node₄_r q), q.beside.apart); count_bound = (omega arith, omega (arith, shape_here q.beside.right p.arena), omega arith) }

pub overflow_add-left_edges : goal.overflow_add-left_edges
overflow_add-left_edges c =
    let p = c.requires in
    let k = counts (goal.at.overflow_add-left_edges c).After-edges_with-right_edges p.head p.nodes p.holds.0 p.holds.1 p.arena in
    omega (arith, links_fit p.holds.1)

pub correct_childrens_parent_links-requires : goal.correct_childrens_parent_links-requires
correct_childrens_parent_links-requires c =
    let p = c.requires in
    let q = p.holds.1 in
    let k = counts (goal.at.correct_childrens_parent_links-requires c).After-edges_with-right_edges p.head p.nodes p.holds.0 q p.arena in
    (omega arith, record { head = p.head; nodes = _; arena = st₅ (goal.at.correct_childrens_parent_links-requires c).After-move_first p.head p.nodes p.holds.0 q p.arena; holds = links_l q _ (omega arith) })

pub correct_childrens_parent_links-requires-2 : goal.correct_childrens_parent_links-requires-2
correct_childrens_parent_links-requires-2 c =
    let p = c.requires in
    let q = p.holds.1 in
    let k = counts (goal.at.correct_childrens_parent_links-requires-2 c).After-edges_with-right_edges p.head p.nodes p.holds.0 q p.arena in
    (omega (arith, q.beside.place), record { head = p.head; nodes = _; arena = st₆ (goal.at.correct_childrens_parent_links-requires-2 c).After-correct_childrens_parent_links p.head p.nodes p.holds.0 q p.arena; holds = links_p q _ k.0 })

pub return_node-requires : goal.return_node-requires
return_node-requires c =
    let p = c.requires in
    record { head = p.head; nodes = _; arena = st₇ (goal.at.return_node-requires c).After-correct_childrens_parent_links-2 p.head p.nodes p.holds.0 p.holds.1 p.arena; holds = (p.holds.0, to_return p.holds.1) }

pub returns : goal.returns
unfolding merge_nodes
returns c = λ h ns free q a. c.return_node.ensures h _ free (to_return q) (st₇ (goal.at.returns c).After-correct_childrens_parent_links-2 h ns free q a)
