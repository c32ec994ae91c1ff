-- Words cleared: the end of a column, and a whole node.
-- Assumes nothing.
use Prim.Native.Nat.{ℕ, zero, suc, ◌+◌, ◌-◌, ◌*◌, ◌≤◌, ◌<◌}
use native.Mathlib.Decide.{ℕ_discrete}
use native.Mathlib.Omega.{arith}
use mathlib.Core.Path.{◌≡◌, refl, sym, ap, ap₂, ◌∙◌, subst}
use mathlib.Core.List.{List, [], ◌∷◌, ◌++◌, map, append-nil}
use lib.ListN.{length, take, drop, set, replicate, length-map, length-set, length-take, length-drop, drop_of_length-le, replicate-append-replicate}
use Rattle.model.specs.Lists.{pad}
use Rattle.model.specs.declared.Layout.TheVariants.{Format2}
use Rattle.model.specs.Layout.{header_size, node_size, base, most, key_of, val_of, node_words, cells, arena_by, NodeVal, nth, blank, Small, Arena}
use Rattle.model.specs.Words.{free_val}
use Rattle.model.proofs.Arena.{words_length}
use Rattle.slices.specs.Words.{splice}
use Rattle.slices.proofs.Laws.{lent, lent_cleared, map_take, splice_left, splice_right}
use Rattle.node.specs.Fields.{Fields, fields_of, Column, key_column, val_column, edge_column, with_column, start_of, room_of, column, row, Stored}
use Rattle.node.proofs.Fields.{stored_splice, stored, first, again, done}
use Rattle.node.proofs.Pad.{pad_length}
use Rattle.columns.specs.Columns.{put_column, with_count}
use Rattle.store.specs.Links.{with_body}
use Rattle.node.specs.Reading.{Within, Has}
use Rattle.node.proofs.Reading.{within}
use Rattle.cutting.specs.Trims.{shortened, CutReady}
use lib.Seq.{length-take-le, get_or-set_same, get_or-set_other}

-- ---- the end of a column

abbrev pub CutColumn : List ℕ → List ℕ → List ℕ → ℕ → Column → ℕ → Type 0
CutColumn w w' h n k from = (fs : List Fields) → n < length fs → Stored w h fs → Stored w' h (put_column fs n k (take from (column k (row fs n))))

take_zeros : (i m : ℕ) → i ≤ m → take {A = ℕ} i (replicate m 0) ≡ replicate i 0
take_zeros zero m l = refl
take_zeros (suc i) zero l = absurd (omega arith)
take_zeros (suc i) (suc m) l = ap (λ t. 0 ∷ t) (take_zeros i m (omega arith))

zeros_left : (m i : ℕ) (l : List ℕ) → i ≤ m → length l ≤ m → take i (l ++ replicate (m - length l) 0) ++ replicate (m - i) 0 ≡ take i l ++ replicate (m - length (take i l)) 0
zeros_left m zero l a b = refl
zeros_left m (suc i) [] a b =
    let z : m - 0 ≡ m = omega arith in
    let y : suc i + (m - suc i) ≡ m = omega arith in
    rw z (ap (λ t. t ++ replicate (m - suc i) 0) (take_zeros (suc i) m a) ∙ replicate-append-replicate (suc i) (m - suc i) 0 ∙ ap (λ (n : ℕ). replicate n 0) y)
zeros_left zero (suc i) (x ∷ l) a b = absurd (omega arith)
zeros_left (suc m) (suc i) (x ∷ l) a b =
    let z : (n : ℕ) → suc m - suc n ≡ m - n = λ n. omega arith in
    rw (z (length l), z i, z (length (take i l))) (ap (λ t. x ∷ t) (zeros_left m i l (omega arith) (omega arith)))

pad_short : (m : ℕ) (l : List ℕ) (i : ℕ) → i ≤ m → length l ≤ m → splice (pad m l) i (m - i) (replicate (m - i) 0) ≡ pad m (take i l)
unfolding splice pad
pad_short m l i a b =
    let k : length (l ++ replicate (m - length l) 0) ≡ m = pad_length m l b in
    let d : drop (m - i) (drop i (l ++ replicate (m - length l) 0)) ≡ [] = drop_of_length-le (drop i (l ++ replicate (m - length l) 0)) {i = m - i} (omega (arith, length-drop i (l ++ replicate (m - length l) 0), k)) in
    ap (λ t. take i (l ++ replicate (m - length l) 0) ++ (replicate (m - i) 0 ++ t)) d
    ∙ ap (λ t. take i (l ++ replicate (m - length l) 0) ++ t) (append-nil (replicate (m - i) 0))
    ∙ zeros_left m i l a b

pub column_cut : {w h : List ℕ} {fs : List Fields} → Stored w h fs → (k : Column) (n col from end s e : ℕ) (p : List ℕ) → n < length fs → col ≡ start_of k → end ≡ room_of k → s ≡ base n + col + from → e ≡ base n + col + end → from ≤ end
    → e ≤ length w → p ≡ replicate (length (take (e - s) (drop s w))) 0 → Stored (take s w ++ (p ++ drop (e - s) (drop s w))) h (put_column fs n k (take from (column k (row fs n))))
column_cut {w} {h} {fs} a k n col from end s e p o ec ee es en l i z =
    let c : e ≡ s + (end - from) = omega arith in
    let at : s ≡ base n + (start_of k + from) = omega arith in
    let room : length (column k (row fs n)) ≤ room_of k = a.fits n o k in
    let g = stored_splice a k n from (room_of k - from) (replicate (room_of k - from) 0) (take from (column k (row fs n))) o (omega arith) (omega (arith, length-take from (column k (row fs n)))) (pad_short (room_of k) (column k (row fs n)) from (omega arith) room) in
    subst (λ (t : List ℕ). Stored t h (put_column fs n k (take from (column k (row fs n)))))
    (sym (lent_cleared w s e (end - from) p c i z ∙ ap₂ (λ (x y : ℕ). splice w x y (replicate y 0)) at (ap (λ (x : ℕ). x - from) ee))) g

-- what clearing a node's columns asks for
pub cut_here : {w : List ℕ} {n at : ℕ} → Has w (λ h ns. CutReady ns n at) → Within w n × (at ≤ most)
cut_here {n = n} p =
    let s = (p.arena.small n p.holds.node).pairs_fit in
    (within p.arena n p.holds.node, omega (arith, p.holds.place))

-- ---- a node's columns cut, and its length written

pub short_put : {w₀ w₁ w₂ w₃ w₄ h : List ℕ} {ns : List NodeVal} → Arena w₀ h ns → (n at : ℕ) → n < length ns → at ≤ length (nth ns n).pairs → CutColumn w₀ w₁ h n key_column at → CutColumn w₁ w₂ h n val_column at → CutColumn w₂ w₃ h n edge_column (at + 1)
    → ((fs : List Fields) → n < length fs → Stored w₃ h fs → Stored w₄ h (set fs n (with_count at (row fs n)))) → Arena w₄ h (shortened ns n at)
short_put {h = h} {ns = ns} a n at o l ck cv ce cl =
    let v = nth ns n in
    let fs : List Fields = map fields_of ns in
    let o' : n < length fs = rw length-map o in
    let f₁ = with_column key_column (take at (map key_of v.pairs)) (fields_of v) in
    let f₂ = with_column val_column (take at (map val_of v.pairs)) f₁ in
    let f₃ = with_column edge_column (take (at + 1) v.edges) f₂ in
    let s₁ = first ns n o (λ f. with_column key_column (take at f.keys) f) (ck fs o' (stored a)) in
    let s₂ = again ns n o (λ f. with_column val_column (take at f.vals) f) f₁ (cv (set fs n f₁) (rw length-set o') s₁) in
    let s₃ = again ns n o (λ f. with_column edge_column (take (at + 1) f.edges) f) f₂ (ce (set fs n f₂) (rw length-set o') s₂) in
    let s₄ = again ns n o (λ f. with_count at f) f₃ (cl (set fs n f₃) (rw length-set o') s₃) in
    done ns n o (with_count at f₃) (with_body v (take at v.pairs) (take (at + 1) v.edges)) fields s₄
  where
    fields : with_count at (with_column edge_column (take (at + 1) (nth ns n).edges) (with_column val_column (take at (map val_of (nth ns n).pairs)) (with_column key_column (take at (map key_of (nth ns n).pairs)) (fields_of (nth ns n))))) ≡ fields_of (with_body (nth ns n) (take at (nth ns n).pairs) (take (at + 1) (nth ns n).edges))
    fields = rw (length-take-le at (nth ns n).pairs l, map_take key_of at (nth ns n).pairs, map_take val_of at (nth ns n).pairs) refl

-- ---- a whole node written

whole_put : (l p : List ℕ) → length l ≡ node_size → splice l 0 node_size p ≡ p
unfolding splice
whole_put l p e = ap (λ t. p ++ t) (drop_of_length-le l {i = node_size} (omega arith)) ∙ append-nil p

cells_put : (ns : List NodeVal) (n : ℕ) (v : NodeVal) → ((m : ℕ) → m < length ns → Small (nth ns m)) → n < length ns → splice (cells ns) (node_size * n) node_size (node_words v) ≡ cells (set ns n v)
cells_put [] n v s l = absurd (omega arith)
cells_put (u ∷ ns) zero v s l =
    let k = words_length Format2 u (s 0 (omega arith)) in
    let z : node_size * 0 ≡ 0 = omega arith in
    rw z (splice_left (node_words u) (cells ns) 0 node_size (node_words v) (omega arith) ∙ ap (λ t. t ++ cells ns) (whole_put (node_words u) (node_words v) k))
cells_put (u ∷ ns) (suc n) v s l =
    let k = words_length Format2 u (s 0 (omega arith)) in
    let z : node_size * suc n ≡ node_size + node_size * n = omega arith in
    rw z (splice_right (node_words u) (cells ns) node_size (node_size * n) node_size (node_words v) k ∙ ap (λ t. node_words u ++ t) (cells_put ns n v (λ m i. s (suc m) (omega arith)) (omega arith)))

pub node_put : {w h : List ℕ} {ns : List NodeVal} → Arena w h ns → (n b e : ℕ) (v : NodeVal) (p : List ℕ) → n < length ns → b ≡ base n → e ≡ b + node_size → Small v → p ≡ node_words v → Arena (take b w ++ (p ++ drop (e - b) (drop b w))) h (set ns n v)
unfolding arena_by
node_put {w} {h} {ns} a n b e v p o eb ee small ep = record {
  header_long = a.header_long;
  small = λ m l. fits m (rw length-set at l) (ℕ_discrete m n);
  words =
      lent w b e node_size p ee
      ∙ ap₂ (λ (x : ℕ) (y : List ℕ). splice w x node_size y) eb ep
      ∙ ap (λ (t : List ℕ). splice t (base n) node_size (node_words v)) a.words
      ∙ splice_right h (cells ns) header_size (node_size * n) node_size (node_words v) a.header_long
      ∙ ap (λ t. h ++ t) (cells_put ns n v a.small o);
}
  where
    fits : (m : ℕ) → m < length ns → Dec (m ≡ n) → Small (nth (set ns n v) m)
    fits m l (yes z) = rw (z, get_or-set_same ns n v blank o) small
    fits m l (no d) = rw (get_or-set_other ns n m v blank d) (a.small m l)

pub free_small : (next : ℕ) → Small (free_val next)
free_small next = record { pairs_fit = omega arith; edges_fit = omega arith }
