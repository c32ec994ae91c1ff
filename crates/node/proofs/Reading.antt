-- What the words of a node are, where the arena is a list of nodes; the cases of the tests.
-- Assumes nothing.
use Prim.Native.Nat.{ℕ, zero, suc, ◌+◌, ◌-◌, ◌≤◌, ◌<◌}
use mathlib.Core.Path.{◌≡◌, refl, sym, ap, ◌∙◌}
use mathlib.Core.List.{List, [], ◌∷◌, map}
use native.Mathlib.Omega.{arith}
use borrow.Author.Tests.{le-leb, lt-leb, eq-eqb, ne_eqb}
use lib.Dec.{lit<}
use lib.ListN.{length, get_or, length-map}
use Rattle.std.specs.Prelude.{Option, Some, None}
use Rattle.node.specs.declared.NodeNo.{NodeNo}
use Rattle.node.specs.declared.Place.{Place}
use Rattle.model.specs.Lists.{part, pad}
use Rattle.model.specs.Layout.{none, most, node_size, base, state_word, length_word, parent_word, place_word, keys_word, values_word, edges_word, total_word, word_at_by, word_at, key_of, val_of, frame, NodeVal, nth, Arena}
use Rattle.model.specs.Insert.{left, right, splitpoint}
use Rattle.node.specs.Fields.{Fields, fields_of, field_words, key_column, val_column, edge_column}
use Rattle.node.specs.Reading.{Within, ascent_of, pair_at}
use Rattle.node.proofs.Pad.{pad_all}
use Rattle.node.proofs.Fields.{stored, stored_length, stored_part, stored_word, node_word, row_fields, last_get, small_fits}

get_d_map : {A : Type 0} (f : A → ℕ) (d : A) (l : List A) (i : ℕ) → get_or (map f l) i (f d) ≡ f (get_or l i d)
get_d_map f d [] i = refl
get_d_map f d (x ∷ l) zero = refl
get_d_map f d (x ∷ l) (suc i) = get_d_map f d l i

module _ {w h : List ℕ} {ns : List NodeVal} (a : Arena w h ns) where
  pub arena_length : length w ≡ base (length ns)
  arena_length = stored_length (stored a) ∙ ap base (length-map ns fields_of)

  pub within : (n : ℕ) → n < length ns → Within w n
  within n o = omega (arith, arena_length)

  module _ (n : ℕ) (o : n < length ns) where
    inside : n < length (map fields_of ns)
    inside = rw length-map o

    alone : (k : ℕ) → k < node_size → word_at w n k ≡ get_or (field_words (fields_of (nth ns n))) k 0
    unfolding word_at_by
    alone k l = node_word (stored a) n k inside l ∙ ap (λ (f : Fields). get_or (field_words f) k 0) (row_fields ns n)

    pub state_is : word_at w n state_word ≡ (nth ns n).state
    unfolding field_words frame
    state_is = alone state_word (lit< tt)

    pub len_is : word_at w n length_word ≡ length (nth ns n).pairs
    unfolding field_words frame
    len_is = alone length_word (lit< tt)

    pub parent_is : word_at w n parent_word ≡ (nth ns n).parent
    unfolding field_words frame
    parent_is = alone parent_word (lit< tt)

    pub place_is : word_at w n place_word ≡ (nth ns n).place
    unfolding field_words frame
    place_is = alone place_word (lit< tt)

    pub total_is : word_at w n total_word ≡ (nth ns n).total
    total_is = alone total_word (lit< tt) ∙ last_get (fields_of (nth ns n)) (small_fits (nth ns n) (a.small n o))

    pub key_is : (i : ℕ) → i < length (nth ns n).pairs → word_at w n (keys_word + i) ≡ key_of (pair_at (nth ns n).pairs i)
    unfolding word_at_by
    key_is i l =
        stored_word (stored a) key_column n i inside (rw (row_fields ns n, length-map) l)
        ∙ ap (λ (f : Fields). get_or f.keys i 0) (row_fields ns n)
        ∙ get_d_map key_of (record { key = 0; val = 0 }) (nth ns n).pairs i

    pub val_is : (i : ℕ) → i < length (nth ns n).pairs → word_at w n (values_word + i) ≡ val_of (pair_at (nth ns n).pairs i)
    unfolding word_at_by
    val_is i l =
        stored_word (stored a) val_column n i inside (rw (row_fields ns n, length-map) l)
        ∙ ap (λ (f : Fields). get_or f.vals i 0) (row_fields ns n)
        ∙ get_d_map val_of (record { key = 0; val = 0 }) (nth ns n).pairs i

    pub edge_is : (i : ℕ) → i < length (nth ns n).edges → word_at w n (edges_word + i) ≡ get_or (nth ns n).edges i 0
    unfolding word_at_by
    edge_is i l =
        stored_word (stored a) edge_column n i inside (rw (row_fields ns n) l)
        ∙ ap (λ (f : Fields). get_or f.edges i 0) (row_fields ns n)

    pub keys_are : (m : ℕ) → m ≡ length (nth ns n).pairs → part w (base n + keys_word) m ≡ map key_of (nth ns n).pairs
    keys_are m e =
        let s = (a.small n o).pairs_fit in
        let z : base n + (keys_word + 0) ≡ base n + keys_word = omega arith in
        rw (← z) (
        stored_part (stored a) key_column n 0 m inside (omega arith)
        ∙ ap (λ (f : Fields). part (pad most f.keys) 0 m) (row_fields ns n)
        ∙ pad_all most (map key_of (nth ns n).pairs) m (e ∙ sym (length-map (nth ns n).pairs key_of))
        )

-- ---- where a node hangs

pub ascent_root : (p i : ℕ) → p ≡ none → ascent_of p i ≡ None
ascent_root p i e = rw (eq-eqb p none e, ascent_of)

pub ascent_edge : (p i : ℕ) → (p ≡ none → ⊥) → ascent_of p i ≡ Some (record { 0 = p }, record { 0 = i })
ascent_edge p i d = rw (ne_eqb p none d, ascent_of)

-- a parent's edge is one node and one place
module _ {p q : NodeNo} {i j : Place} (e : ◌≡◌ {A = Option (NodeNo × Place)} (Some (p, i)) (Some (q, j))) where
  abbrev parted : Option (NodeNo × Place) → NodeNo × Place
  parted None = (q, j)
  parted (Some x) = x

  pub same_node : p.0 ≡ q.0
  same_node = ap (λ (x : Option (NodeNo × Place)). (parted x).0.0) e

  pub same_place : i.0 ≡ j.0
  same_place = ap (λ (x : Option (NodeNo × Place)). (parted x).1.0) e

-- ---- the four cases of the split point

pub is_4 : (i : ℕ) → i ≤ 4 → splitpoint i ≡ record { place = 4; side = left; edge = i }
is_4 i h = rw (le-leb i 4 h)

pub is_5 : (i : ℕ) → i ≡ 5 → splitpoint i ≡ record { place = 5; side = left; edge = 5 }
is_5 i h = rw h

pub is_6 : (i : ℕ) → i ≡ 6 → splitpoint i ≡ record { place = 5; side = right; edge = 0 }
is_6 i h = rw h

pub is_7 : (i : ℕ) → 7 ≤ i → splitpoint i ≡ record { place = 6; side = right; edge = i - 7 }
is_7 i h = rw (lt-leb i 4 (omega arith), ne_eqb i 5 (λ e. omega arith), ne_eqb i 6 (λ e. omega arith))
