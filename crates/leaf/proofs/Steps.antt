-- From changes of columns to changes of pairs, step by step.
-- Assumes nothing.
use Prim.Native.Nat.{ℕ, zero, suc, ◌+◌, ◌-◌, ◌≤◌, ◌<◌}
use mathlib.Core.Path.{◌≡◌, refl, sym, ap, ◌∙◌}
use mathlib.Core.List.{List, [], ◌∷◌, ◌++◌, map, map-append, append-nil}
use native.Mathlib.Omega.{arith}
use lib.ListN.{length, take, drop, get_or, set, length-map, length-set, drop_of_length-le}
use lib.Seq.{get_or-set_same, get_or-set_other, set-set, set_comm, set-get_or, take-take, drop-drop, get_or-take, length-take-le}
use Rattle.model.specs.Lists.{insert_at}
use Rattle.model.specs.Tree.{Pair}
use Rattle.model.specs.Layout.{most, keys_word, length_word, values_word, key_of, val_of, word_at, NodeVal, nth, blank, Arena}
use Rattle.slices.specs.Words.{remove_at}
use Rattle.slices.proofs.Laws.{map_insert, map_remove, map_set, map_take, map_drop, insert_length, remove_length}
use Rattle.node.specs.Fields.{Fields, fields_of, Column, key_column, val_column, start_of, column, with_column, row, Stored}
use Rattle.node.specs.Reading.{Within, Has, pair_at}
use Rattle.node.proofs.Fields.{stored, unstored, row_fields, set_fields}
use Rattle.node.proofs.Reading.{within, len_is}
use Rattle.columns.specs.Columns.{In, put_columns, with_count}
use Rattle.leaf.specs.Pairs.{with_pairs, put_both, remove_pair, last_pairs, split_pairs, RoomAt, PairAt, Two, LastReady, SplitReady}

-- ---- what is asked, in words

module _ {w : List ℕ} {n i : ℕ} where
  pub room_here : Has w (λ h ns. RoomAt ns n i) → Within w n × (word_at w n length_word < most) × (i ≤ word_at w n length_word)
  room_here p =
      let r = p.holds in
      let l = len_is p.arena n r.node in
      (within p.arena n r.node, omega arith, omega arith)

  pub pair_here : Has w (λ h ns. PairAt ns n i) → Within w n × (word_at w n length_word ≤ most) × (i < word_at w n length_word)
  pair_here p =
      let r = p.holds in
      let l = len_is p.arena n r.node in
      let f = (p.arena.small n r.node).pairs_fit in
      (within p.arena n r.node, omega arith, omega arith)

-- two nodes are there, and how many pairs they hold
pub two_here : {w h : List ℕ} {ns : List NodeVal} {l r : ℕ} → Two ns l r → Arena w h ns → Within w l × Within w r × (word_at w l length_word ≡ length (nth ns l).pairs) × (word_at w r length_word ≡ length (nth ns r).pairs) × (length (nth ns l).pairs ≤ most) × (length (nth ns r).pairs ≤ most)
two_here {ns = ns} {l = l} {r = r} t a = (within a l t.left, within a r t.right, len_is a l t.left, len_is a r t.right, (a.small l t.left).pairs_fit, (a.small r t.right).pairs_fit)

-- ---- one node

module _ (ns : List NodeVal) (n : ℕ) (o : n < length ns) (m : ℕ) (e : m ≡ length (nth ns n).pairs) where
  pub keys_in : In (map fields_of ns) n key_column keys_word m
  keys_in = record { node = rw length-map o; start_is = refl; count_is = rw (row_fields ns n, length-map) e }

  pub vals_in : (f : Fields) → length f.vals ≡ m → In (set (map fields_of ns) n f) n val_column values_word m
  vals_in f d = record {
    node = rw (length-set, length-map) o;
    start_is = refl;
    count_is = rw (get_or-set_same (map fields_of ns) n f (fields_of blank) (rw length-map o)) (sym d);
  }

-- ---- two nodes

-- their fields made to f and g
abbrev pub both : List NodeVal → ℕ → ℕ → Fields → Fields → List Fields
both ns l r f g = set (set (map fields_of ns) l f) r g

module _ (ns : List NodeVal) (l r : ℕ) (t : Two ns l r) (f g : Fields) where
  abbrev now : List Fields
  now = both ns l r f g

  both_long : length now ≡ length ns
  both_long = length-set (set (map fields_of ns) l f) r g ∙ length-set (map fields_of ns) l f ∙ length-map ns fields_of

  row_l : row now l ≡ f
  row_l = get_or-set_other (set (map fields_of ns) l f) r l g (fields_of blank) t.apart ∙ get_or-set_same (map fields_of ns) l f (fields_of blank) (rw length-map t.left)

  row_r : row now r ≡ g
  row_r = get_or-set_same (set (map fields_of ns) l f) r g (fields_of blank) (rw (length-set, length-map) t.right)

  -- a column of each, with as many words in use as it has
  in_l : (k : Column) (start m : ℕ) → start ≡ start_of k → m ≡ length (column k f) → In now l k start m
  in_l k start m s e = record { node = rw both_long t.left; start_is = s; count_is = rw row_l e }

  in_r : (k : Column) (start m : ℕ) → start ≡ start_of k → m ≡ length (column k g) → In now r k start m
  in_r k start m s e = record { node = rw both_long t.right; start_is = s; count_is = rw row_r e }

  swap : (x : Fields) → set now l x ≡ set (set (map fields_of ns) l x) r g
  swap x = set_comm (set (map fields_of ns) l f) r l g x (λ e. t.apart (sym e)) ∙ ap (λ (s : List Fields). set s r g) (set-set (map fields_of ns) l f x)

  -- another change of both, of the left one, of the right one; G and H say what becomes of the fields
  both_again : {w h : List ℕ} (G H : Fields → Fields → Fields) → Stored w h (set (set now l (G (row now l) (row now r))) r (H (row now l) (row now r))) → Stored w h (both ns l r (G f g) (H f g))
  both_again G H a = rw (row_l, row_r, swap (G f g), set-set (set (map fields_of ns) l (G f g)) r g (H f g)) at a

  left_again : {w h : List ℕ} (G : Fields → Fields) → Stored w h (set now l (G (row now l))) → Stored w h (both ns l r (G f) g)
  left_again G a = rw (row_l, swap (G f)) at a

  right_again : {w h : List ℕ} (H : Fields → Fields) → Stored w h (set now r (H (row now r))) → Stored w h (both ns l r f (H g))
  right_again H a = rw (row_r, set-set (set (map fields_of ns) l f) r g (H g)) at a

  both_done : {w h : List ℕ} (u v : NodeVal) → f ≡ fields_of u → g ≡ fields_of v → Stored w h now → Arena w h (set (set ns l u) r v)
  both_done u v d e a = unstored (rw (d, e, set_fields ns l u, set_fields (set ns l u) r v) at a)

-- where they are what they were
both_same : (ns : List NodeVal) (l r : ℕ) → map fields_of ns ≡ both ns l r (fields_of (nth ns l)) (fields_of (nth ns r))
both_same ns l r = sym (ap (λ (t : List Fields). set t r (fields_of (nth ns r))) (same l) ∙ same r)
  where
    same : (n : ℕ) → set (map fields_of ns) n (fields_of (nth ns n)) ≡ map fields_of ns
    same n = ap (λ (f : Fields). set (map fields_of ns) n f) (sym (row_fields ns n)) ∙ set-get_or (map fields_of ns) n (fields_of blank)

-- ---- the pairs, from their keys, their values and their count

pub anew : (v : NodeVal) (ps : List Pair) (m : ℕ) (ks vs : List ℕ) → ks ≡ map key_of ps → vs ≡ map val_of ps → m ≡ length ps → with_count m (with_column val_column vs (with_column key_column ks (fields_of v))) ≡ fields_of (with_pairs v ps)
anew v ps m ks vs d e f = rw (d, e, f) refl

module _ (f : Pair → ℕ) (i : ℕ) (ps qs : List Pair) where
  pub map_last : drop i (map f ps) ++ map f qs ≡ map f (drop i ps ++ qs)
  map_last = sym (map-append f (drop i ps) qs ∙ ap (λ (t : List ℕ). t ++ map f qs) (map_drop f i ps))

  pub map_first : map f ps ++ take i (map f qs) ≡ map f (ps ++ take i qs)
  map_first = sym (map-append f ps (take i qs) ∙ ap (λ (t : List ℕ). map f ps ++ t) (map_take f i qs))

module _ (v : NodeVal) (i k x : ℕ) where
  pub inserted : (m : ℕ) → m ≡ length v.pairs → i ≤ m → with_count (m + 1) (with_column val_column (insert_at (map val_of v.pairs) i x) (with_column key_column (insert_at (map key_of v.pairs) i k) (fields_of v))) ≡ fields_of (with_pairs v (insert_at v.pairs i (record { key = k; val = x })))
  inserted m e o =
      let p : Pair = record { key = k; val = x } in
      anew v (insert_at v.pairs i p) (m + 1) _ _ (sym (map_insert key_of v.pairs i p)) (sym (map_insert val_of v.pairs i p)) (omega (arith, insert_length v.pairs i p (omega arith)))

  pub replaced : with_column val_column (set (map val_of v.pairs) i x) (with_column key_column (set (map key_of v.pairs) i k) (fields_of v)) ≡ fields_of (with_pairs v (set v.pairs i (record { key = k; val = x })))
  replaced =
      let p : Pair = record { key = k; val = x } in
      anew v (set v.pairs i p) (length v.pairs) _ _ (sym (map_set key_of v.pairs i p)) (sym (map_set val_of v.pairs i p)) (sym (length-set v.pairs i p))

pub removed : (v : NodeVal) (i m : ℕ) → m ≡ length v.pairs → i < m → with_count (m - 1) (with_column val_column (remove_at (map val_of v.pairs) i) (with_column key_column (remove_at (map key_of v.pairs) i) (fields_of v))) ≡ fields_of (with_pairs v (remove_at v.pairs i))
removed v i m e o = anew v (remove_at v.pairs i) (m - 1) _ _ (sym (map_remove key_of v.pairs i)) (sym (map_remove val_of v.pairs i)) (omega (arith, remove_length v.pairs i (omega arith)))

-- a key and a value are a pair of the node's
pub pair_is : (ps : List Pair) (i k x : ℕ) → k ≡ get_or (map key_of ps) i 0 → x ≡ get_or (map val_of ps) i 0 → record { key = k; val = x } ≡ pair_at ps i
pair_is ps i k x e d = rw (e, d) (go ps i)
  where
    go : (ps : List Pair) (i : ℕ) → record { key = get_or (map key_of ps) i 0; val = get_or (map val_of ps) i 0 } ≡ pair_at ps i
    go [] i = refl
    go (p ∷ ps) zero = refl
    go (p ∷ ps) (suc i) = go ps i

-- ---- pairs moved between two nodes: their keys, their values, and the two counts. G and H say what becomes of a column, on the left and on
-- the right, and G' and H' the same of the pairs

-- a step that moves words of the column k, which has m words in use on the left and n on the right
abbrev pub Moves : List ℕ → List ℕ → List ℕ → ℕ → ℕ → ℕ → ℕ → (List ℕ → List ℕ → List ℕ) → (List ℕ → List ℕ → List ℕ) → Column → Type 0
Moves w w' h l r m n G H k =
    (fs : List Fields) → In fs l k (start_of k) m → In fs r k (start_of k) n → Stored w h fs
    → Stored w' h (put_columns fs l r k (G (column k (row fs l)) (column k (row fs r))) (H (column k (row fs l)) (column k (row fs r))))

-- a step that writes the count of the node q
abbrev pub Counts : List ℕ → List ℕ → List ℕ → ℕ → ℕ → Type 0
Counts w w' h q c = (fs : List Fields) → q < length fs → Stored w h fs → Stored w' h (set fs q (with_count c (row fs q)))

module _ {h w w₁ w₂ w₃ w₄ : List ℕ} {ns : List NodeVal} {l r : ℕ} (t : Two ns l r) (G H : List ℕ → List ℕ → List ℕ) (G' H' : List Pair → List Pair → List Pair) (m n x y : ℕ) where
  pub pairs_moved : m ≡ length (nth ns l).pairs → n ≡ length (nth ns r).pairs
      → ((f : Pair → ℕ) → G (map f (nth ns l).pairs) (map f (nth ns r).pairs) ≡ map f (G' (nth ns l).pairs (nth ns r).pairs))
      → ((f : Pair → ℕ) → H (map f (nth ns l).pairs) (map f (nth ns r).pairs) ≡ map f (H' (nth ns l).pairs (nth ns r).pairs))
      → x ≡ length (G' (nth ns l).pairs (nth ns r).pairs) → y ≡ length (H' (nth ns l).pairs (nth ns r).pairs)
      → Moves w w₁ h l r m n G H key_column → Moves w₁ w₂ h l r m n G H val_column → Counts w₂ w₃ h l x → Counts w₃ w₄ h r y
      → Arena w h ns → Arena w₄ h (put_both ns l r (G' (nth ns l).pairs (nth ns r).pairs) (H' (nth ns l).pairs (nth ns r).pairs))
  pairs_moved em en g k ex ey keys vals left right a =
      let ps = (nth ns l).pairs in
      let qs = (nth ns r).pairs in
      let kl = em ∙ sym (length-map ps key_of) in
      let kr = en ∙ sym (length-map qs key_of) in
      let vl = em ∙ sym (length-map ps val_of) in
      let vr = en ∙ sym (length-map qs val_of) in
      let s₁ = both_again ns l r t _ _ (λ (v u : Fields). with_column key_column (G v.keys u.keys) v) (λ (v u : Fields). with_column key_column (H v.keys u.keys) u) (keys _ (in_l ns l r t _ _ key_column _ m refl kl) (in_r ns l r t _ _ key_column _ n refl kr) (rw (both_same ns l r) at (stored a))) in
      let s₂ = both_again ns l r t _ _ (λ (v u : Fields). with_column val_column (G v.vals u.vals) v) (λ (v u : Fields). with_column val_column (H v.vals u.vals) u) (vals _ (in_l ns l r t _ _ val_column _ m refl vl) (in_r ns l r t _ _ val_column _ n refl vr) s₁) in
      let s₃ = left_again ns l r t _ _ (with_count x) (left _ (rw (both_long ns l r t) t.left) s₂) in
      both_done ns l r t _ _ _ _ (anew (nth ns l) (G' ps qs) x _ _ (g key_of) (g val_of) ex) (anew (nth ns r) (H' ps qs) y _ _ (k key_of) (k val_of) ey) (right_again ns l r t _ _ (with_count y) (right _ (rw (both_long ns l r t) t.right) s₃))

-- ---- a split: the pairs after i moved to an empty node, then the pair i taken out

module _ (ns : List NodeVal) (n m i : ℕ) (s : SplitReady ns n m i) where
  abbrev ps : List Pair
  ps = (nth ns n).pairs

  -- after the move
  abbrev pub mid : List NodeVal
  mid = last_pairs ns n m (i + 1)

  pub to_move : {w h : List ℕ} → Arena w h ns → LastReady ns n m (i + 1)
  to_move a =
      let f = (a.small n s.two.left).pairs_fit in
      let z = ap length s.empty in
      record { two = s.two; place = omega (arith, s.place); fits = omega arith }

  mid_n : nth mid n ≡ with_pairs (nth ns n) (take (i + 1) ps)
  mid_n = get_or-set_other (set ns n _) m n _ blank s.two.apart ∙ get_or-set_same ns n _ blank s.two.left

  some : length (take (i + 1) ps) ≡ i + 1
  some = length-take-le (i + 1) ps (omega (arith, s.place))

  pub to_remove : PairAt mid n i
  to_remove = record { node = rw (length-set, length-set) s.two.left; place = rw mid_n (omega (arith, some)) }

  pub pair_of_mid : pair_at (nth mid n).pairs i ≡ pair_at ps i
  pair_of_mid = rw mid_n (get_or-take (i + 1) ps i _ (omega arith))

  pub split_done : remove_pair mid n i ≡ split_pairs ns n m i
  unfolding remove_at
  split_done =
      let e : remove_at (take (i + 1) ps) i ≡ take i ps =
      rw (take-take i (i + 1) ps (omega arith), drop-drop 1 i (take (i + 1) ps), drop_of_length-le (take (i + 1) ps) {i = i + 1} (omega (arith, some))) (append-nil (take i ps)) in
      let f : drop (i + 1) ps ++ (nth ns m).pairs ≡ drop (i + 1) ps = rw s.empty (append-nil (drop (i + 1) ps)) in
      rw (mid_n, e, f, set_comm (set ns n (with_pairs (nth ns n) (take (i + 1) ps))) m n (with_pairs (nth ns m) (drop (i + 1) ps)) (with_pairs (nth ns n) (take i ps)) (λ z. s.two.apart (sym z))) (ap (λ (t : List NodeVal). set t m (with_pairs (nth ns m) (drop (i + 1) ps))) (set-set ns n (with_pairs (nth ns n) (take (i + 1) ps)) (with_pairs (nth ns n) (take i ps))))
