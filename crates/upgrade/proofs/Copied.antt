-- The words copied, node by node; and what they hold.
-- Assumes nothing.
use Rattle.std.proofs.Common.{ℕ, zero, suc, ◌+◌, ◌-◌, ◌≤◌, ◌<◌, add-one, arith, ◌≡◌, refl, sym, ap, ap₂, ◌∙◌, List, [], ◌∷◌, ◌++◌, append_assoc, append-nil, length, take, drop, get_or, set, length-append, length-take, length-drop, drop_of_length-le, take_all, drop-cons, length-take-le}
use Rattle.model.specs.Lists.{part}
use Rattle.model.specs.declared.Layout.TheVariants.{Format1}
use Rattle.model.specs.Layout.{header_size, node_size, total_word, base_by, base}
use Rattle.slices.specs.Words.{splice}
use Rattle.slices.proofs.Laws.{take_on, lent, lent_out, splice_length}
use Rattle.upgrade.specs.Copies.{copies}
use lib.Seq.{set_at}

-- ---- a node: its words and a count of 0

pub node_words_lem : (p l : List ℕ) → length p ≡ total_word → length l ≡ node_size → set (p ++ drop total_word l) total_word 0 ≡ p ++ (0 ∷ [])
node_words_lem p l e f =
    rw (drop-cons l total_word 0 (omega arith), drop_of_length-le l {i = node_size} (omega arith))
    (set_at p (get_or l total_word 0) [] 0 total_word e)

-- ---- node after node

pub take_whole : (p q : List ℕ) (n : ℕ) → length p ≡ n → take n (p ++ q) ≡ p
take_whole p q n k =
    let z : n ≡ n + 0 = omega arith in
    ap (λ m. take m (p ++ q)) z ∙ take_on p q n 0 k ∙ append-nil p

written : (l p : List ℕ) (i n e : ℕ) → i ≤ length l → length p ≡ n → e ≡ i + n → take e (splice l i n p) ≡ take i l ++ p
unfolding splice
written l p i n e u k d =
    let t : length (take i l) ≡ i = simp length-take (omega arith) in
    rw (d, take_on (take i l) (p ++ drop n (drop i l)) i n t) (ap (λ x. take i l ++ x) (take_whole p (drop n (drop i l)) n k))

copies_next : (w : List ℕ) (i n : ℕ) → i < n → copies w i (n - i) ≡ (part w (base_by Format1 i) total_word ++ (0 ∷ [])) ++ copies w (i + 1) (n - (i + 1))
copies_next w i n l = go (n - i) refl
  where
    go : (d : ℕ) → n - i ≡ d → copies w i (n - i) ≡ (part w (base_by Format1 i) total_word ++ (0 ∷ [])) ++ copies w (i + 1) (n - (i + 1))
    go zero e = absurd (omega (arith, e))
    go (suc d) e = let f : n - (i + 1) ≡ d = omega (arith, e) in rw (e, f, add-one i) refl

part_long : (w : List ℕ) (i n : ℕ) → i + n ≤ length w → length (part w i n) ≡ n
unfolding part
part_long w i n l = length-take-le n (drop i w) (omega (arith, length-drop i w))

-- a turn: node i is written into its part
module _ (a w p : List ℕ) (n i b e c d : ℕ) (at : b ≡ base i) (end : e ≡ b + node_size) (from : c ≡ b - i) (to : d ≡ c + total_word) (more : i < n) (long : length a ≡ base n) (other : length w ≡ base_by Format1 n) (words : p ≡ take (d - c) (drop c w) ++ (0 ∷ [])) where
  c_is : c ≡ base_by Format1 i
  c_is = omega arith

  words_are : p ≡ part w (base_by Format1 i) total_word ++ (0 ∷ [])
  words_are = words ∙ ap (λ l. l ++ (0 ∷ [])) (lent_out w c d total_word to ∙ ap (λ k. part w k total_word) c_is)

  p_long : length p ≡ node_size
  p_long = ap length words_are ∙ length-append (part w (base_by Format1 i) total_word) (0 ∷ []) ∙ omega (arith, part_long w (base_by Format1 i) total_word (omega arith))

  pub node_long : length (take b a ++ (p ++ drop (e - b) (drop b a))) ≡ length a
  node_long = rw (lent a b e node_size p end) (splice_length a b node_size (omega arith) p p_long)

  pub node_turn : take (base (i + 1)) (take b a ++ (p ++ drop (e - b) (drop b a))) ++ copies w (i + 1) (n - (i + 1)) ≡ take (base i) a ++ copies w i (n - i)
  node_turn =
      ap (λ l. take (base (i + 1)) l ++ copies w (i + 1) (n - (i + 1))) (lent a b e node_size p end)
      ∙ ap (λ l. l ++ copies w (i + 1) (n - (i + 1))) (written a p b node_size (base (i + 1)) (omega arith) p_long (omega arith))
      ∙ append_assoc (take b a) p (copies w (i + 1) (n - (i + 1)))
      ∙ ap₂ (λ x y. take x a ++ (y ++ copies w (i + 1) (n - (i + 1)))) at words_are
      ∙ ap (λ l. take (base i) a ++ l) (sym (copies_next w i n more))

pub nodes_done : (a w v : List ℕ) (n i : ℕ) → i ≡ n → length a ≡ base n → take (base i) a ++ copies w i (n - i) ≡ v → a ≡ v
nodes_done a w v n i e k h =
    let z : n - i ≡ 0 = omega arith in
    let t : take (base i) a ≡ a = take_all (base i) a (omega (arith, ap base e)) in
    sym (append-nil a) ∙ (rw (z, t) at h)

pub nodes_begin : (a w : List ℕ) (n : ℕ) → take (base 0) a ++ copies w 0 (n - 0) ≡ take header_size a ++ copies w 0 n
nodes_begin a w n = let z : n - 0 ≡ n = omega arith in rw z refl
