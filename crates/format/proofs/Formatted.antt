-- The words of a formatted state, step by step.
-- Assumes nothing.
use Prim.Native.Nat.{ℕ, zero, suc, ◌+◌, ◌-◌, ◌≤◌, ◌<◌}
use native.Mathlib.Numerals.{add-one}
use native.Mathlib.Omega.{arith}
use mathlib.Core.Path.{◌≡◌, refl, sym, ap, ap₂, ◌∙◌}
use mathlib.Core.List.{List, ◌∷◌, ◌++◌, append_assoc, append-nil}
use lib.ListN.{length, take, drop, set, replicate, length-append, length-take}
use lib.Seq.{take_all}
use borrow.Author.Tests.{eq-eqb, ne_eqb}
use Rattle.model.specs.Lists.{count, pad}
use Rattle.model.specs.Layout.{none, format_number, header_size, node_size, free, leaf, base, format_word, count_word, offset_word, first_free_word, free_word, state_word, parent_word, frame, node_words_by, node_words, cells, arena_by}
use Rattle.model.specs.State.{formatted}
use Rattle.model.specs.Words.{Block, free_val, first_or, chain_blocks, val_at, nodes_from, header_of, words_of_by, words_of}
use Rattle.slices.specs.Words.{splice}
use Rattle.slices.proofs.Laws.{take_on, lent, splice_length}
use Rattle.format.specs.Formatting.{chain_after, empty_node, free_nodes}

-- ---- the chain

pub last_none : (i n : ℕ) → i + 1 ≡ n → none ≡ first_or (chain_after i n)
last_none i n e = let z : n - (i + 1) ≡ 0 = omega arith in rw z refl

pub next_one : (i n : ℕ) → i + 1 < n → i + 1 ≡ first_or (chain_after i n)
next_one i n l = go (n - (i + 1)) refl
  where
    go : (d : ℕ) → n - (i + 1) ≡ d → i + 1 ≡ first_or (chain_after i n)
    go zero e = absurd (omega (arith, e))
    go (suc d) e = rw e refl

pub free_next : (i n : ℕ) → i < n → free_nodes i (n - i) ≡ free_val (first_or (chain_after i n)) ∷ free_nodes (i + 1) (n - (i + 1))
free_next i n l = go (n - i) refl
  where
    go : (d : ℕ) → n - i ≡ d → free_nodes i (n - i) ≡ free_val (first_or (chain_after i n)) ∷ free_nodes (i + 1) (n - (i + 1))
    go zero e = absurd (omega (arith, e))
    go (suc d) e = let f : n - (i + 1) ≡ d = omega (arith, e) in rw (e, f, add-one i) refl

-- ---- its nodes, as the model lists them

skip : (b : Block) (bs : List Block) (i n : ℕ) → b.no < i → nodes_from (b ∷ bs) i n ≡ nodes_from bs i n
skip b bs i zero l = refl
skip b bs i (suc n) l = ap₂ ◌∷◌ (rw (ne_eqb b.no i (λ e. omega arith), val_at)) (skip b bs (suc i) n (omega arith))

chained : (i k : ℕ) → nodes_from (chain_blocks (count i k)) i k ≡ free_nodes i k
chained i zero = refl
chained i (suc k) = ap₂ ◌∷◌ (rw (eq-eqb i i refl, val_at)) (skip _ (chain_blocks (count (suc i) k)) (suc i) k (omega arith) ∙ chained (suc i) k)

pub formatted_words : (n : ℕ) → 1 ≤ n → words_of (formatted n) ≡ header_of (formatted n) ++ (node_words (empty_node leaf none) ++ cells (free_nodes 1 (n - 1)))
unfolding words_of_by arena_by
formatted_words zero l = absurd (omega arith)
formatted_words (suc n) l =
    let d : suc n - 1 ≡ n = omega arith in
    rw d (ap (λ ns. header_of (formatted (suc n)) ++ (node_words (empty_node leaf none) ++ cells ns)) (skip _ (chain_blocks (count 1 n)) 1 n (omega arith) ∙ chained 1 n))

-- ---- words written part after part

take_whole : (p q : List ℕ) (n : ℕ) → length p ≡ n → take n (p ++ q) ≡ p
take_whole p q n k =
    let z : n ≡ n + 0 = omega arith in
    ap (λ m. take m (p ++ q)) z ∙ take_on p q n 0 k ∙ append-nil p

-- what stands before the end of a part that was written
pub written : (l p : List ℕ) (i n e : ℕ) → i ≤ length l → length p ≡ n → e ≡ i + n → take e (splice l i n p) ≡ take i l ++ p
unfolding splice
written l p i n e u k d =
    let t : length (take i l) ≡ i = simp length-take (omega arith) in
    rw (d, take_on (take i l) (p ++ drop n (drop i l)) i n t) (ap (λ x. take i l ++ x) (take_whole p (drop n (drop i l)) n k))

pub node_long : (state link : ℕ) → length (node_words (empty_node state link)) ≡ node_size
unfolding node_words_by frame pad
node_long state link = refl

-- ---- what was written over zeros

pub node_words_lem : (l : List ℕ) (state link : ℕ) → l ≡ replicate node_size 0 → set (set l state_word state) parent_word link ≡ node_words (empty_node state link)
unfolding node_words_by frame pad
node_words_lem l state link e = rw e refl

count_long : (i n : ℕ) → length (count i n) ≡ n
count_long i zero = refl
count_long i (suc n) = ap suc (count_long (suc i) n)

pub header_words : (l : List ℕ) (n first k : ℕ) → 1 ≤ n → l ≡ replicate header_size 0 → first ≡ first_or (chain_after 0 n) → k ≡ n - 1
    → set (set (set (set (set l format_word format_number) count_word n) offset_word header_size) first_free_word first) free_word k ≡ header_of (formatted n)
header_words l zero first k u e f g = absurd (omega arith)
header_words l (suc n) first k u e f g =
    let d : suc n - 1 ≡ n = omega arith in
    let h : first ≡ first_or (count 1 n) = rw d at f in
    let j : k ≡ length (count 1 n) = g ∙ d ∙ sym (count_long 1 n) in
    rw (e, h, j) refl

-- ---- a turn of the chain's loop: node i is written into its part

module _ (a p : List ℕ) (n i b e link : ℕ) (at : b ≡ base i) (end : e ≡ b + node_size) (more : i < n) (long : length a ≡ base n) (words : p ≡ node_words (empty_node free link)) where
  p_long : length p ≡ node_size
  p_long = ap length words ∙ node_long free link

  pub turn_long : length (take b a ++ (p ++ drop (e - b) (drop b a))) ≡ length a
  turn_long = rw (lent a b e node_size p end) (splice_length a b node_size (omega arith) p p_long)

  pub turn : link ≡ first_or (chain_after i n) → take (base (i + 1)) (take b a ++ (p ++ drop (e - b) (drop b a))) ++ cells (free_nodes (i + 1) (n - (i + 1))) ≡ take (base i) a ++ cells (free_nodes i (n - i))
  turn next =
      ap (λ l. take (base (i + 1)) l ++ cells (free_nodes (i + 1) (n - (i + 1)))) (lent a b e node_size p end)
      ∙ ap (λ l. l ++ cells (free_nodes (i + 1) (n - (i + 1)))) (written a p b node_size (base (i + 1)) (omega arith) p_long (omega arith))
      ∙ append_assoc (take b a) p (cells (free_nodes (i + 1) (n - (i + 1))))
      ∙ ap₂ (λ x y. take x a ++ (y ++ cells (free_nodes (i + 1) (n - (i + 1))))) at (words ∙ ap (λ x. node_words (empty_node free x)) next)
      ∙ ap (λ ns. take (base i) a ++ cells ns) (sym (free_next i n more))

pub chain_done : (a w : List ℕ) (n i : ℕ) → i ≡ n → length a ≡ base n → take (base i) a ++ cells (free_nodes i (n - i)) ≡ w → a ≡ w
chain_done a w n i e k h =
    let z : n - i ≡ 0 = omega arith in
    let t : take (base i) a ≡ a = take_all (base i) a (omega (arith, ap base e)) in
    sym (append-nil a) ∙ (rw (z, t) at h)

-- ---- all of it: the header, the root, the chain

pub all_words : (h p t w : List ℕ) (n : ℕ) → 1 ≤ n → h ≡ header_of (formatted n) → p ≡ node_words (empty_node leaf none) → w ≡ take (base 1) (take header_size (h ++ t) ++ (p ++ drop node_size (drop header_size (h ++ t)))) ++ cells (free_nodes 1 (n - 1)) → w ≡ words_of (formatted n)
unfolding splice
all_words h p t w n u e f g =
    let k : length h ≡ header_size = ap length e in
    g
    ∙ ap (λ l. l ++ cells (free_nodes 1 (n - 1))) (written (h ++ t) p header_size node_size (base 1) (simp length-append (omega arith)) (ap length f ∙ node_long leaf none) refl ∙ ap (λ l. l ++ p) (take_whole h t header_size k))
    ∙ append_assoc h p (cells (free_nodes 1 (n - 1)))
    ∙ ap₂ (λ x y. x ++ (y ++ cells (free_nodes 1 (n - 1)))) e f
    ∙ sym (formatted_words n u)
