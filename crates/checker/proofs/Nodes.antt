-- Nodes as tasks: a node is its own words and then its edges, a level lower.
-- Assumes nothing.
use Rattle.std.proofs.Common.{Bool, true, false, Option, None, Some, ℕ, zero, suc, ◌+◌, ◌-◌, ◌≤◌, ◌<◌, sub-one, arith, eq-or-lt_of_le, ◌≡◌, refl, sym, ap, ◌∙◌, ⊎_elim, List, [], append-nil, length, length-append}
use Rattle.model.specs.Lists.{join_to, mix_to}
use Rattle.model.specs.declared.Layout.{Layout}
use Rattle.model.specs.Layout.{least, total_word, word_at_by}
use Rattle.model.specs.WellFormed.{Reached, length_at_by, edge_at_by, key_at_by, reach_by, keys_in_by}
use Rattle.model.proofs.Lists.{join_more}
use Rattle.model.specs.Shape.{OwnBy, ShapeBy}
use Rattle.inspect.specs.Tests.{Decides, LeadsBy}
use Rattle.inspect.proofs.Decisions.{decided, refuted}
use Rattle.checker.specs.declared.Walk.{Walk}
use Rattle.checker.specs.Walks.{Task, Rises, last_of, Said, key_task, keys_task, gap, child_of, node_task, children, nodes_to, edges_task}
use Rattle.checker.proofs.Tasks.{both, counted_said, Told, walk_is, gap_said, then_said, same_said, steps, steps_none, edge_said, key_said, edge_refused, key_refused}

pub some_nodes : (fm : Layout) (w : List ℕ) (count : ℕ) (r : Reached) → 1 ≤ (node_task fm w count r).nodes
unfolding reach_by
some_nodes fm w count r = go r.below
  where
    go : (h : ℕ) → 1 ≤ length (reach_by fm w h r.fewest r.node r.parent r.place)
    go zero = omega arith
    go (suc h) = omega arith

pub shape_own : (fm : Layout) (w : List ℕ) (count h fewest n p e : ℕ) → ShapeBy fm w count h fewest n p e → OwnBy fm w count (record { below = h; fewest = fewest; node = n; parent = p; place = e })
unfolding ShapeBy
shape_own fm w count zero fewest n p e s = s.0
shape_own fm w count (suc h) fewest n p e s = s.0

-- a node whose own words are wrong
pub not_own : (fm : Layout) (w : List ℕ) (count : ℕ) (r : Reached) (b : Bool) → Decides b (OwnBy fm w count r) → b ≡ false → ShapeBy fm w count r.below r.fewest r.node r.parent r.place → ⊥
not_own fm w count r b d e s = refuted b d e (shape_own fm w count r.below r.fewest r.node r.parent r.place s)

-- an internal node's edges lead to nodes whose parent it is
pub shape_leads : (fm : Layout) (w : List ℕ) (count h fewest n p e m : ℕ) → (h ≡ 0 → ⊥) → m ≡ length_at_by fm w n → ShapeBy fm w count h fewest n p e → (i : ℕ) → i < m + 1 → LeadsBy fm w count n i
unfolding ShapeBy
shape_leads fm w count zero fewest n p e m z k s i l = absurd (z refl)
shape_leads fm w count (suc h) fewest n p e m z k s i l =
    let o = shape_own fm w count h least (edge_at_by fm w n i) n i (s.1 i (omega (arith, k))) in
    record { inside = o.inside; parent_is = o.linked.parent_is }

-- ---- the keys of a leaf, as those between its gaps

module _ (fm : Layout) (w : List ℕ) (n : ℕ) where
  abbrev pub leaf_steps : ℕ → Task
  leaf_steps = steps (λ i. gap) (key_at_by fm w n) (λ i. 0)

  flat : (i : ℕ) → 0 ≡ 0 + gap.nodes
  flat i = omega arith

  pub leaf_none : (u : Walk) → Said (leaf_steps 0) u (Some u)
  leaf_none u = steps_none (λ i. gap) (key_at_by fm w n) (λ i. 0) flat u refl

  pub leaf_gap : (i : ℕ) (u v : Walk) → Said (leaf_steps i) u (Some v) → Said (keys_task fm w n i) u (Some v)
  leaf_gap i u v p = edge_said (λ i. gap) (key_at_by fm w n) (λ i. 0) flat i u v (Some v) p (gap_said v)

  pub leaf_key : (i x : ℕ) (u v : Walk) (q : Option Walk) → x ≡ key_at_by fm w n i → Said (leaf_steps i) u (Some v) → Said (key_task x) v q → Said (leaf_steps (i + 1)) u q
  leaf_key i x u v q e p s = key_said (λ i. gap) (key_at_by fm w n) (λ i. 0) flat i x u v q e (leaf_gap i u v p) s

  pub leaf_refused : (i m : ℕ) (u : Walk) → i < m → Said (leaf_steps (i + 1)) u None → Said (keys_task fm w n m) u None
  leaf_refused = key_refused (λ i. gap) (key_at_by fm w n) (λ i. 0) flat

-- ---- the edges of an internal node

module _ (fm : Layout) (w : List ℕ) (count h n : ℕ) where
  -- m edges were passed, each with the key after it
  abbrev pub edge_steps : ℕ → Task
  edge_steps = steps (children fm w count h n) (key_at_by fm w n) (nodes_to fm w h n)

  more : (i : ℕ) → nodes_to fm w h n (i + 1) ≡ nodes_to fm w h n i + (children fm w count h n i).nodes
  more i =
      let R : ℕ → List Reached = λ j. reach_by fm w h least (edge_at_by fm w n j) n j in
      ap length (join_more R i) ∙ length-append (join_to R i) (R i)

  pub edges_none : (u : Walk) → Said (edge_steps 0) u (Some u)
  edges_none u = steps_none (children fm w count h n) (key_at_by fm w n) (nodes_to fm w h n) more u refl

  pub edge_next : (i : ℕ) (r : Reached) (u v : Walk) (q : Option Walk) → r ≡ child_of fm w h n i → Said (edge_steps i) u (Some v) → Said (node_task fm w count r) v q → Said (edges_task fm w count h n i) u q
  edge_next i r u v q e p s = edge_said (children fm w count h n) (key_at_by fm w n) (nodes_to fm w h n) more i u v q p (rw e at s)

  pub key_next : (i x : ℕ) (u v : Walk) (q : Option Walk) → x ≡ key_at_by fm w n i → Said (edges_task fm w count h n i) u (Some v) → Said (key_task x) v q → Said (edge_steps (i + 1)) u q
  key_next = key_said (children fm w count h n) (key_at_by fm w n) (nodes_to fm w h n) more

  pub edge_stop : (i m : ℕ) (u : Walk) → i < m → Said (edges_task fm w count h n i) u None → Said (edges_task fm w count h n m) u None
  edge_stop = edge_refused (children fm w count h n) (key_at_by fm w n) (nodes_to fm w h n) more

  pub edge_stop_to : (i m : ℕ) (u : Walk) → i ≤ m → Said (edges_task fm w count h n i) u None → Said (edges_task fm w count h n m) u None
  edge_stop_to i m u l q = ⊎_elim (λ e. rw e at q) (λ v. edge_stop i m u v q) (eq-or-lt_of_le l)

  pub key_stop : (i m : ℕ) (u : Walk) → i < m → Said (edge_steps (i + 1)) u None → Said (edges_task fm w count h n m) u None
  key_stop = key_refused (children fm w count h n) (key_at_by fm w n) (nodes_to fm w h n) more

-- ---- a node: its own words, then its edges

-- a node's own words
abbrev pub own_task : (fm : Layout) → List ℕ → ℕ → Reached → Task
own_task fm w count r = record { holds = OwnBy fm w count r; keys = []; nodes = 1 }

pub own_said : (fm : Layout) (w : List ℕ) (count : ℕ) (r : Reached) (u : Walk) (b : Bool) → Decides b (OwnBy fm w count r) → b ≡ true → 1 ≤ u.nodes → Said (own_task fm w count r) u (Some (record { nodes = u.nodes - 1; pairs = u.pairs; last = u.last }))
unfolding Rises last_of
own_said fm w count r u b d e l = (record { holds = decided b d e; rises = tt; pairs = omega arith; nodes = l }, walk_is refl (omega arith) refl)

module _ (fm : Layout) (w : List ℕ) (count fewest n p e x : ℕ) (u v : Walk) (d q : Option Walk) where
  pub leaf_said : (h m : ℕ) → h ≡ 0 → m ≡ length_at_by fm w n → x ≡ word_at_by fm w n total_word → Said (own_task fm w count (record { below = h; fewest = fewest; node = n; parent = p; place = e })) u (Some v) → Said (keys_task fm w n m) v d
      → Told fm x u d q → Said (node_task fm w count (record { below = h; fewest = fewest; node = n; parent = p; place = e })) u q
  unfolding ShapeBy reach_by keys_in_by
  leaf_said zero m z k t o s c =
      let keys = append-nil _ ∙ ap (mix_to (λ i. []) (key_at_by fm w n)) k in
      same_said (record { to = λ h. (h.0.0, λ a. sym t ∙ h.1 a ∙ ap length keys); from = λ h. ((h.0, λ i l. tt), λ a. t ∙ h.1 a ∙ sym (ap length keys)); keys = keys; nodes = omega arith }) u q
      (counted_said fm (both (own_task fm w count _) (keys_task fm w n m)) x u d q (then_said (own_task fm w count _) (keys_task fm w n m) u v d o s) c)
  leaf_said (suc h) m z k t o s c = absurd (omega arith)

  pub inner_said : (h m : ℕ) → (h ≡ 0 → ⊥) → m ≡ length_at_by fm w n → x ≡ word_at_by fm w n total_word → Said (own_task fm w count (record { below = h; fewest = fewest; node = n; parent = p; place = e })) u (Some v) → Said (edges_task fm w count (h - 1) n m) v d
      → Told fm x u d q → Said (node_task fm w count (record { below = h; fewest = fewest; node = n; parent = p; place = e })) u q
  unfolding ShapeBy reach_by keys_in_by
  inner_said zero m z k t o s c = absurd (z refl)
  inner_said (suc h) m z k t o s c =
      same_said (record { to = λ y. (y.0.0, y.0.1, λ a. sym t ∙ y.1 a); from = λ y. ((y.0, y.1), λ a. t ∙ y.2 a); keys = refl; nodes = omega arith }) u q
      (counted_said fm (both (own_task fm w count _) (edges_task fm w count h n (length_at_by fm w n))) x u d q (then_said (own_task fm w count _) (edges_task fm w count h n (length_at_by fm w n)) u v d o (rw (k, sub-one (suc h)) at s)) c)
