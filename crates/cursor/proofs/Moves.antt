-- The steps of the code as the moves of the model's cursor.
-- Assumes nothing.
use mathlib.Core.Option as model
use Rattle.model.specs.declared.Answer.TheVariants.{Value}
use Rattle.model.specs.declared.Picked.{Picked}
use Rattle.model.specs.declared.Refused.{Refused}
use Rattle.model.specs.declared.Refused.TheVariants.{BadArena}
use Rattle.model.specs.Answer.{said_picked}
use Rattle.model.specs.declared.SearchBound.{SearchBound}
use Rattle.model.specs.declared.SearchBound.TheVariants.{AllIncluded}
use Rattle.model.specs.Layout.{most, base, node_size, header, height_word, word_at, state_word, keys_word, values_word, edges_word, internal}
use Rattle.model.specs.Tree.{Pair, top, Whole, after, before}
use Rattle.model.specs.Search.{Spot, at, gap}
use Rattle.model.specs.Walk.{next_kv, back_kv, next_edge, back_edge}
use Rattle.model.specs.Map.{picked}
use Rattle.model.specs.State.{State, At}
use Rattle.model.specs.Words.{kind}
use Rattle.model.specs.WellFormed.{WellFormed}
use Rattle.model.specs.Promise.{Holds, Walk}
use Rattle.model.specs.Cursor as on
use Rattle.model.proofs.Descent.{last_before}
use Rattle.model.proofs.Walks.{Ahead, Behind, next_kv_lem, back_kv_lem, next_edge_lem, back_edge_lem, start_parts}
use Rattle.model.proofs.Forward.{forward}
use Rattle.model.proofs.Standing.{stands, below_at}
use Rattle.node.specs.declared.NodeNo.{NodeNo}
use Rattle.node.specs.declared.Place.{Place}
use Rattle.search.specs.declared.Handle.{Handle}
use Rattle.search.specs.Results.{leaf_edge}
use Rattle.std.proofs.Common.{Option, Some, None, Ok, Err, ℕ, zero, suc, ◌+◌, ◌≤◌, ◌<◌, arith, ◌≡◌, refl, sym, ap, ◌∙◌, subst, inl, inr, List, [], ◌∷◌, length}
use Rattle.navigate.specs.Places.{InTree, EdgeAt, KvAt, stepped}
use Rattle.navigate.proofs.Pairs.{step_placed, kv_within, kv_key, kv_val}
use Rattle.navigate.proofs.Steps.{climb_top}
use Rattle.walking.specs.Arrived.{arrived}
use Rattle.walking.specs.Walking.{Stale}
use Rattle.walking.proofs.Walks.{exactly_stale}
use Rattle.walking.proofs.Live.{PlaceAt, live_at, live_place}
use Rattle.walking.proofs.Spots.{start_of, end_of, next_arrives, previous_arrives}
use Rattle.cursor.specs.declared.Cursor.{Cursor}
use Rattle.cursor.specs.declared.Stand.{Stand}
use Rattle.cursor.specs.Cursors.{stop_of, stand_of, cursor_of, moved_of, standing, Allows, Checked}

-- ---- where a step ends

-- no pair
pub none_arrived : (n : ℕ) (end : on.Stand) (p : Spot) → None ≡ stepped p → record { cursor = record { changes = n; stand = end }; found = picked model.none } ≡ arrived n end p
none_arrived n end (gap c) e = refl
none_arrived n end (at c m l x y r) e = let z : ◌≡◌ {A = ℕ} 0 1 = cc in absurd (omega arith)

module _ {w : List ℕ} {s : State} (o : Holds w s) (p : Spot) (i : InTree s.whole p) (d : Handle) (e : Some d ≡ stepped p) where
  pub pair_within : (base d.node.0 + node_size ≤ length w) × (d.at.0 < most)
  pair_within = kv_within d (step_placed p d e i).kv o

  pub pair_arrived : (n : ℕ) (end : on.Stand) (k v : ℕ) → k ≡ word_at w d.node.0 (keys_word + d.at.0) → v ≡ word_at w d.node.0 (values_word + d.at.0)
      → record { cursor = record { changes = n; stand = on.on (stop_of d.node d.at) }; found = record { answer = Value v; key = k } } ≡ arrived n end p
  pair_arrived n end k v ek ev =
      let z = step_placed p d e i in
      let y = z.kv in
      (λ t. record { cursor = record { changes = n; stand = on.on (record { node = y.node_is t; place = y.at_is t }) }; found = record { answer = Value ((ev ∙ kv_val d y o) t); key = (ek ∙ kv_key d y o) t } })
      ∙ ap (arrived n end) (sym z.same)

-- a step from a leaf edge ends in the tree
ahead_in : (w : Whole) (ps : List Pair) (p : Spot) → Ahead w ps p → InTree w p
ahead_in w ps (gap c) y = tt
ahead_in w ps (at c n l e x r) y = y.0

behind_in : (w : Whole) (ps : List Pair) (p : Spot) → Behind w ps p → InTree w p
behind_in w ps (gap c) y = tt
behind_in w ps (at c n l e x r) y = y.0

module _ {s : State} {d : Handle} (y : EdgeAt s d) where
  pub next_in : InTree s.whole (next_kv y.way)
  next_in = subst (λ (v : Whole). InTree v (next_kv y.way)) y.whole (ahead_in _ (after y.way) (next_kv y.way) (next_kv_lem y.way))

  pub back_in : InTree s.whole (back_kv y.way)
  back_in = subst (λ (v : Whole). InTree v (back_kv y.way)) y.whole (behind_in _ (before y.way) (back_kv y.way) (back_kv_lem y.way))

-- ---- the leaf edges where the steps begin

module _ {w : List ℕ} {s : State} (o : Holds w s) where
  abbrev pub start_edge : (b : SearchBound) (d : Handle) → d ≡ leaf_edge (start_of o b) → EdgeAt s d
  start_edge b d e = record { way = start_of o b; whole = (start_parts (record { start = b; end = AllIncluded }) s.whole o.sound.rising).whole; is = e }

  abbrev pub end_edge : (d : Handle) → d ≡ leaf_edge (end_of o) → EdgeAt s d
  end_edge d e = record { way = end_of o; whole = (last_before s.whole.height top s.whole.root).2; is = e }

module _ {s : State} {d : Handle} (y : KvAt s d) where
  abbrev pub edge_after : (e : Handle) → e ≡ leaf_edge (next_edge y.ctx y.no y.left y.hole y.item y.right) → EdgeAt s e
  edge_after e q = record { way = next_edge y.ctx y.no y.left y.hole y.item y.right; whole = (next_edge_lem y.ctx y.no y.left y.hole y.item y.right).1 ∙ y.whole; is = q }

  abbrev pub edge_before : (e : Handle) → e ≡ leaf_edge (back_edge y.ctx y.no y.left y.hole y.item y.right) → EdgeAt s e
  edge_before e q = record { way = back_edge y.ctx y.no y.left y.hole y.item y.right; whole = (back_edge_lem y.ctx y.no y.left y.hole y.item y.right).1 ∙ y.whole; is = q }

  -- a step from the place of the pair
  there : ◌≡◌ {A = on.Stop} (record { node = y.no; place = length y.left }) (stop_of d.node d.at)
  there = λ t. record { node = sym y.node_is t; place = sym y.at_is t }

  module _ {w : List ℕ} (o : Holds w s) (n : ℕ) where
    pub on_told : arrived n on.past (next_kv (next_edge y.ctx y.no y.left y.hole y.item y.right)) ≡ on.next n (standing n d.node d.at) s
    on_told = sym (next_arrives o y.ctx y.no y.left y.hole y.item y.right y.whole n) ∙ ap (λ p. on.next n (record { changes = n; stand = on.on p }) s) there

    pub back_told : arrived n on.before (back_kv (back_edge y.ctx y.no y.left y.hole y.item y.right)) ≡ on.previous n (standing n d.node d.at) s
    back_told = sym (previous_arrives o y.ctx y.no y.left y.hole y.item y.right y.whole n) ∙ ap (λ p. on.previous n (record { changes = n; stand = on.on p }) s) there

-- ---- the levels below a node

-- h levels below the one where the count began: so many were passed, and those are left
pub record Sunk (s : State) (m passed h : ℕ) : Type 0 where
  pub left : ℕ
  pub place : At s m left
  pub sum : h ≡ passed + left

at_high : {w : List ℕ} {s : State} → Holds w s → {n h : ℕ} → At s n h → h ≤ header w height_word
at_high o {n} {h} p = climb_top (λ h c t. Unit {0}) o {n = n} {h = h} {i = 0} (record { frame = record { no = p.tree.no; left = []; right = p.tree.rest }; ctx = p.ctx; tree = p.tree.first; whole = p.whole; node_is = p.number; at_is = refl; holds = tt })

module _ {w : List ℕ} {s : State} (o : Holds w s) {m k h : ℕ} (y : Sunk s m k h) where
  kind_is : word_at w m state_word ≡ kind y.left
  kind_is = (stands o y.place).reads.state_is

  pub sunk_within : base m + node_size ≤ length w
  sunk_within = (stands o y.place).within

  pub sunk_leaf : (word_at w m state_word ≡ internal → ⊥) → k ≡ h
  sunk_leaf d = go y.left kind_is y.sum
    where
      go : (j : ℕ) → word_at w m state_word ≡ kind j → h ≡ k + j → k ≡ h
      go zero e q = omega arith
      go (suc j) e q = absurd (d e)

  pub sunk_on : word_at w m state_word ≡ internal → (x : ℕ) → x ≡ word_at w m (edges_word + 0) → Sunk s x (k + 1) h
  sunk_on i x ex = go y.left y.place kind_is y.sum
    where
      go : (j : ℕ) (p : At s m j) → word_at w m state_word ≡ kind j → h ≡ k + j → Sunk s x (k + 1) h
      go zero p e q = absurd (omega arith)
      go (suc j) p e q = record { left = j; place = below_at o p 0 x (omega arith) ex; sum = omega arith }

  -- as many as the tree has are all of them
  pub sunk_all : {n : ℕ} → At s n h → header w height_word ≤ k → k ≡ h
  sunk_all p l = omega (arith, at_high o p, y.sum, l)

-- ---- a place that holds a pair

pub kv_of : {w : List ℕ} {s : State} → Holds w s → (node : NodeNo) (i : Place) → on.PairAt w (stop_of node i) → (r : ℕ) → ((h : ℕ) → At s node.0 h → r ≡ h) → KvAt s (record { node = node; height = r; at = i })
kv_of {s = s} o node i y r u =
    let a = live_at o (stop_of node i) y in
    let z : PlaceAt s (stop_of node i) r = subst (PlaceAt s (stop_of node i)) (sym (u a.0 a.1)) (live_place o (stop_of node i) y) in
    record { ctx = z.ctx; no = z.no; left = z.left; hole = z.hole; item = z.item; right = z.right; whole = z.whole; node_is = z.node_is; at_is = z.at_is }

-- ---- the promises

-- a call that is refused as the arena is bad
pub walk_bad : {w : List ℕ} (f : State → on.Moved) (c : on.Cursor) → (WellFormed w → ⊥) → (e : Refused) → e ≡ BadArena → Walk f c w w c (said_picked (Err e))
walk_bad f c b e q = inl (b, (refl, refl, ap (λ (r : Refused). said_picked (Err r)) q))

-- one that moves from c: to where f says
pub walk_done : {w : List ℕ} (f : State → on.Moved) (c : on.Cursor) (n : ℕ) (m : Stand × Option (ℕ × ℕ)) → WellFormed w → ((s : State) → Holds w s → moved_of n m ≡ f s) → Walk f c w w (record { changes = n; stand = stand_of m.0 }) (said_picked (Ok m.1))
walk_done {w} f c n m v g =
    let o = forward w v in
    let e = g _ o in
    inr ((λ b. b v), record { state = _; holds = o; left = refl; stands = ap (λ (x : on.Moved). x.cursor) e; said = ap (λ (x : on.Moved). x.found) e })

-- the same call by another name
pub walk_same : {w : List ℕ} {f g : State → on.Moved} {c c' : on.Cursor} {r : Picked} → ((s : State) → f s ≡ g s) → Walk f c w w c' r → Walk g c w w c' r
walk_same q (inl x) = inl x
walk_same q (inr x) = let y = x.1 in inr (x.0, record { state = y.state; holds = y.holds; left = y.left; stands = y.stands ∙ ap (λ (m : on.Moved). m.cursor) (q y.state); said = y.said ∙ ap (λ (m : on.Moved). m.found) (q y.state) })

-- a refused step, and a made one
module _ {w : List ℕ} (n : ℕ) (c : Cursor) where
  stale_step : (f : State → on.Moved) → WellFormed w → ((s : State) → Holds w s → on.stale (cursor_of c) ≡ f s) → Walk f (cursor_of c) w w (cursor_of c) (on.stale (cursor_of c)).found
  stale_step f v g =
      let o = forward w v in
      let e = g _ o in
      inr ((λ b. b v), record { state = _; holds = o; left = refl; stands = ap (λ (x : on.Moved). x.cursor) e; said = ap (λ (x : on.Moved). x.found) e })

  refused_step : (f : State → on.Moved) → (Stale w n (cursor_of c) → (s : State) → Holds w s → on.stale (cursor_of c) ≡ f s) → (e : Refused) → Checked w n c (Err e) → Walk f (cursor_of c) w w (cursor_of c) (said_picked (Err e))
  refused_step f g e (inl x) = walk_bad f (cursor_of c) x.0 e x.1
  refused_step f g e (inr x) = subst (λ (r : Refused). Walk f (cursor_of c) w w (cursor_of c) (said_picked (Err r))) (sym x.2) (stale_step f x.0 (g x.1))

  pub next_refused : (e : Refused) → Checked w n c (Err e) → Walk (λ s. on.next n (cursor_of c) s) (cursor_of c) w w (cursor_of c) (said_picked (Err e))
  next_refused = refused_step (λ s. on.next n (cursor_of c) s) (λ x s o. let r = (exactly_stale w s o n (cursor_of c)).0 in sym (r.unmoved (r.exactly.1 x)))

  pub back_refused : (e : Refused) → Checked w n c (Err e) → Walk (λ s. on.previous n (cursor_of c) s) (cursor_of c) w w (cursor_of c) (said_picked (Err e))
  back_refused = refused_step (λ s. on.previous n (cursor_of c) s) (λ x s o. let r = (exactly_stale w s o n (cursor_of c)).1 in sym (r.unmoved (r.exactly.1 x)))

  -- the cursor with the count that it was checked with
  pub same_cursor : {st : Stand} → Allows w n c st → record { changes = n; stand = stand_of st } ≡ cursor_of c
  same_cursor a = λ t. record { changes = sym a.same t; stand = ap stand_of a.stand_is t }

  pub made_step : (f : on.Cursor → State → on.Moved) {st : Stand} (m : Stand × Option (ℕ × ℕ)) → Allows w n c st → ((s : State) → Holds w s → moved_of n m ≡ f (record { changes = n; stand = stand_of st }) s)
      → Walk (f (cursor_of c)) (cursor_of c) w w (record { changes = n; stand = stand_of m.0 }) (said_picked (Ok m.1))
  made_step f m a g = walk_done (f (cursor_of c)) (cursor_of c) n m a.formed (λ s o. g s o ∙ ap (λ (d : on.Cursor). f d s) (same_cursor a))

-- an open bound admits the first pair
from_all : (ps : List on.Post) → on.from AllIncluded ps ≡ ps
from_all [] = refl
from_all (p ∷ ps) = refl

pub first_sought : (n : ℕ) (s : State) → on.seek n AllIncluded s ≡ on.first n s
first_sought n s = ap (on.moved n on.past) (from_all (on.posts s))
