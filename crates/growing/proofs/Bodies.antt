-- What the nodes of an insertion's steps hold, as items with numbers; one law for a leaf and an internal node.
-- Assumes nothing.
use Prim.Native.Nat.{ℕ, zero, suc, ◌+◌, ◌≤◌, ◌<◌}
use native.Mathlib.Numerals.{add-one}
use native.Mathlib.Omega.{arith}
use mathlib.Core.Path.{◌≡◌, refl, ap, ◌∙◌}
use mathlib.Core.Logic.{◌≢◌}
use mathlib.Core.List.{List, [], ◌∷◌, map, tail}
use lib.ListN.{length, take, drop}
use Rattle.model.specs.Lists.{insert_at}
use Rattle.model.specs.Tree.{Pair, Item}
use Rattle.model.specs.Layout.{none, most, largest_count, NodeVal, nth}
use Rattle.model.specs.Words.{kind, free_val}
use Rattle.model.specs.Insert.{edge_of}
use Rattle.slices.proofs.Laws.{map_insert}
use Rattle.store.specs.Links.{body_of}
use Rattle.leaf.specs.Split.{split_nodes}
use Rattle.standing.specs.Kept.{Links, Kept}
use Rattle.standing.specs.Standing.{content}
use Rattle.growing.specs.Steps.{fit_at, FitsAt, Splits}
use Rattle.shrinking.proofs.Items.{body_parts, pair_in, edge_in, low_content, high_content}
use Rattle.shrinking.proofs.Pairs.{pairs_kept, pairs_body}
use Rattle.shrinking.proofs.Steps.{content_pairs, content_edges, branching}
use Rattle.growing.proofs.Puts.{fit_kept, fit_body, split_low, split_high}

abbrev item : Pair → ℕ → Item ℕ
item p y = record { pair = p; edge = y }

-- the child that a fit links: none in a leaf
abbrev pub new_child : ℕ → ℕ → List ℕ
new_child zero y = []
new_child (suc h) y = y ∷ []

-- a node that may become a child
abbrev pub Takes : ℕ → List NodeVal → ℕ → Type 0
Takes zero ns y = Unit {0}
Takes (suc h) ns y = (y < length ns) × (1 ≤ (nth ns y).state) × ((nth ns y).parent ≡ none)

insert_past : (e : ℕ) (l : List ℕ) (i y : ℕ) → insert_at (e ∷ l) (i + 1) y ≡ e ∷ insert_at l i y
unfolding insert_at
insert_past e l i y = rw add-one refl

module _ (ns : List NodeVal) (L : Links ns) (few : length ns ≤ largest_count) (n e : ℕ) (r : List (Item ℕ)) (o : n < length ns) where
  pub splitting : (h : ℕ) → body_of (nth ns n) ≡ content h e r → Splits h ns n
  splitting zero b = let v = body_parts (nth ns n) _ b in record { state_is = v.0; no_edges = v.2 }
  splitting (suc h) b = branching ns L n e r o h b

  -- ---- an item put in

  module _ (i y : ℕ) (l : i ≤ length r) where
    pub fitting_ready : (h : ℕ) → body_of (nth ns n) ≡ content h e r → length r < most → Takes h ns y → FitsAt h ns n i y
    fitting_ready zero b m t = record { node = o; room = rw (content_pairs ns L n e r o 0 b) m; place = rw (content_pairs ns L n e r o 0 b) l }
    fitting_ready (suc h) b m t = record { room = record { node = o; room = rw (content_pairs ns L n e r o (suc h) b) m; place = rw (content_pairs ns L n e r o (suc h) b) l }; branches = branching ns L n e r o h b; child = t.0 }

    module _ (p : Pair) where
      pub fitting_kept : (h : ℕ) → body_of (nth ns n) ≡ content h e r → Takes h ns y → Kept ns (fit_at h ns n i p y) (n ∷ []) (new_child h y)
      fitting_kept zero b t = pairs_kept ns L n o (insert_at (nth ns n).pairs i p)
      fitting_kept (suc h) b t = fit_kept ns L few n i p y o (omega (arith, content_edges ns L n e r o h b, content_pairs ns L n e r o (suc h) b)) t.0 t.1 t.2

      pub fitting_body : (h : ℕ) → body_of (nth ns n) ≡ content h e r → Takes h ns y → body_of (nth (fit_at h ns n i p y) n) ≡ content h e (insert_at r i (record { pair = p; edge = y }))
      fitting_body zero b t =
          let v = body_parts (nth ns n) _ b in
          pairs_body ns L n o (insert_at (nth ns n).pairs i p) ∙ rw (v.0, v.1, v.2, map_insert pair_in r i (item p y)) refl
      fitting_body (suc h) b t =
          let v = body_parts (nth ns n) _ b in
          fit_body ns L few n i p y o (omega (arith, content_edges ns L n e r o h b, content_pairs ns L n e r o (suc h) b)) t.0 t.1 t.2
          ∙ rw (v.0, v.1, v.2, map_insert pair_in r i (item p y), map_insert edge_in r i (item p y)) (ap (λ (es : List ℕ). record { state = kind (suc h); pairs = insert_at (map pair_in r) i p; edges = es }) (insert_past e (map edge_in r) i y))

  -- ---- the halves

  module _ (m next i : ℕ) (om : m < length ns) (d : n ≢ m) (f : nth ns m ≡ free_val next) where
    pub low_body : (h : ℕ) → body_of (nth ns n) ≡ content h e r → body_of (nth (split_nodes ns n m i) n) ≡ content h e (take i r)
    low_body h b = split_low ns L few n m next i o om d f ∙ (let v = body_parts (nth ns n) _ b in rw (v.0, v.1, v.2, add-one) (low_content i h e r))

    pub high_body : (h : ℕ) → body_of (nth ns n) ≡ content h e r → i < length r → body_of (nth (split_nodes ns n m i) m) ≡ content h (edge_of e (drop i r)) (tail (drop i r))
    high_body h b l = split_high ns L few n m next i o om d f ∙ (let v = body_parts (nth ns n) _ b in rw (v.0, v.1, v.2, add-one) (high_content i h e r l))
