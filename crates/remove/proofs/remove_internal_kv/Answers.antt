-- `remove::remove_internal_kv` meets its contract: the pair before it taken, it found again and replaced.
-- Assumes nothing.
use Prim.Native.Nat.{ℕ}
use mathlib.Core.Path.{◌≡◌, refl, sym, ◌∙◌}
use native.Mathlib.Omega.{arith}
use Rattle.model.specs.Search as model
use Rattle.model.specs.State.{State}
use Rattle.model.specs.Promise.{Holds}
use Rattle.model.proofs.Backward.{backward}
use Rattle.navigate.proofs.Pairs.{kv_within, kv_key}
use Rattle.remove.specs.Removals.{without, InnerKv}
use Rattle.search.specs.declared.SearchResult.TheVariants.{Found}
use Rattle.search.specs.Results.{handle, spotted}
use Rattle.remove.proofs.States.{same_long}
use Rattle.remove.proofs.Again.{node_below, shown}
use Rattle.remove.proofs.Inner.{edge_some, left_kv, still_there, again_in, inner_was, inner_holds}
use Rattle.remove.proofs.remove_internal_kv.Goals as goal
use Rattle.remove.proofs.remove_internal_kv.Goals.{After-remove_leaf_kv-left_kv, Then-has_key, at-Then-has_key}

pub key-k-requires : goal.key-k-requires
key-k-requires c = let p = c.requires in kv_within _ p.there.kv p.holds

pub overflow_sub-edge : goal.overflow_sub-edge
overflow_sub-edge c = let p = c.requires in omega (arith, edge_some p.holds p.there _ (c.next_back_leaf_edge-edge.ensures p.state p.holds p.there.kv))

pub remove_leaf_kv-left_kv-requires : goal.remove_leaf_kv-left_kv-requires
remove_leaf_kv-left_kv-requires c =
    let p = c.requires in
    record { state = p.state; holds = p.holds; there = left_kv p.holds p.there _ (c.next_back_leaf_edge-edge.ensures p.state p.holds p.there.kv) }

-- the state between, and the key
between : (c : After-remove_leaf_kv-left_kv) {s : State} (o : Holds c.args.a.now s) (y : InnerKv s c.args.kv) → Holds c.remove_leaf_kv-left_kv.new.a (without s (left_kv o y _ (c.next_back_leaf_edge-edge.ensures s o y.kv)))
between c {s} o y = (c.remove_leaf_kv-left_kv.ensures s o (left_kv o y _ (c.next_back_leaf_edge-edge.ensures s o y.kv))).1

key_is : (c : After-remove_leaf_kv-left_kv) {s : State} (o : Holds c.args.a.now s) (y : InnerKv s c.args.kv) → c.key-k.result ≡ y.kv.item.pair.key
key_is c o y = c.key-k.ensures ∙ kv_key _ y.kv o

pub has_key-requires : goal.has_key-requires
has_key-requires c =
    let p = c.requires in
    let q = kv_within _ p.there.kv p.holds in
    let l = same_long p.holds (between (goal.at.has_key-requires c).After-remove_leaf_kv-left_kv p.holds p.there) refl in
    (omega (arith, q.0, l), q.1)

-- where the node still shows the key, the pair stands
stays : (c : Then-has_key) {s : State} (o : Holds c.args.a.now s) (y : InnerKv s c.args.kv) → let x = c.args.kv in (g : ℕ) × (Found (handle x.node.0 g x.at.0) ≡ spotted (model.search c.key-k.result (without s (left_kv o y _ (c.next_back_leaf_edge-edge.ensures s o y.kv))).whole))
stays c {s} o y =
    let x = c.args.kv in
    let q = kv_within _ y.kv o in
    let f = c.has_key.ensures c.if-has_key.true in
    shown c.key-k.result x.node.0 x.at.0 (between (at-Then-has_key c).After-remove_leaf_kv-left_kv o y) (node_below o x.node.0 q.0) f.0 f.1

pub replace_kv-requires : goal.replace_kv-requires
replace_kv-requires c =
    let p = c.requires in
    let k = between (goal.at.replace_kv-requires c).After-remove_leaf_kv-left_kv p.holds p.there in
    again_in p.holds p.there _ (c.next_back_leaf_edge-edge.ensures p.state p.holds p.there.kv) k _ (key_is (goal.at.replace_kv-requires c).After-remove_leaf_kv-left_kv p.holds p.there) _ (stays (goal.at.replace_kv-requires c).Then-has_key p.holds p.there).1

pub returns-then-has_key : goal.returns-then-has_key
returns-then-has_key c =
    λ s o y.
    let b = c in
    let q = c.next_back_leaf_edge-edge.ensures s o y.kv in
    let k = between (goal.at.returns-then-has_key c).After-remove_leaf_kv-left_kv o y in
    let f = (stays (goal.at.returns-then-has_key c).Then-has_key o y).1 in
    let l = (b.remove_leaf_kv-left_kv.ensures s o (left_kv o y _ q)).0 in
    (inner_was o y _ q k _ (key_is (goal.at.returns-then-has_key c).After-remove_leaf_kv-left_kv o y) _ f l c.replace_kv.ensures, inner_holds o y _ q k _ (key_is (goal.at.returns-then-has_key c).After-remove_leaf_kv-left_kv o y) _ f l c.replace_kv.ensures)

pub search_tree-requires : goal.search_tree-requires
search_tree-requires c = let p = c.requires in backward _ _ (between (goal.at.search_tree-requires c).After-remove_leaf_kv-left_kv p.holds p.there)

pub returns-in_default : goal.returns-in_default
returns-in_default c =
    λ s o y.
    let k = between (goal.at.returns-in_default c).After-remove_leaf_kv-left_kv o y in
    absurd (still_there o y _ (c.next_back_leaf_edge-edge.ensures s o y.kv) k _ (key_is (goal.at.returns-in_default c).After-remove_leaf_kv-left_kv o y) _ (sym c.in_default.is ∙ c.search_tree.ensures _ k))

pub replace_kv-requires-2 : goal.replace_kv-requires-2
replace_kv-requires-2 c =
    let p = c.requires in
    let k = between (goal.at.replace_kv-requires-2 c).After-remove_leaf_kv-left_kv p.holds p.there in
    again_in p.holds p.there _ (c.next_back_leaf_edge-edge.ensures p.state p.holds p.there.kv) k _ (key_is (goal.at.replace_kv-requires-2 c).After-remove_leaf_kv-left_kv p.holds p.there) _ (sym c.in-Found.is ∙ c.search_tree.ensures _ k)

pub returns : goal.returns
returns c =
    λ s o y.
    let b = c in
    let q = c.next_back_leaf_edge-edge.ensures s o y.kv in
    let k = between (goal.at.returns c).After-remove_leaf_kv-left_kv o y in
    let f = sym c.in-Found.is ∙ c.search_tree.ensures _ k in
    let l = (b.remove_leaf_kv-left_kv.ensures s o (left_kv o y _ q)).0 in
    (inner_was o y _ q k _ (key_is (goal.at.returns c).After-remove_leaf_kv-left_kv o y) _ f l c.replace_kv-2.ensures, inner_holds o y _ q k _ (key_is (goal.at.returns c).After-remove_leaf_kv-left_kv o y) _ f l c.replace_kv-2.ensures)
