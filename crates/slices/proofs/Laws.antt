-- Laws of lists that the moves of words rest on.
-- Assumes nothing.
use mathlib.Core.Path.{◌≡◌, refl, sym, ap, ◌∙◌}
use mathlib.Core.List.{map, List, [], ◌∷◌, ◌++◌, append_assoc}
use Prim.Native.Nat.{ℕ, zero, suc, ◌+◌, ◌-◌, ◌≤◌, ◌<◌}
use native.Mathlib.Nat.{not-suc-le-zero, le_of_suc-le-suc}
use native.Mathlib.Numerals.{add-one}
use native.Mathlib.Omega.{arith}
use lib.ListN.{replicate, length, take, drop, get_or, set, length-append, length-drop}
use lib.Seq.{get_or-take, take-length, drop-length, set_at, take-suc, drop-cons, get_or-drop, take_at, drop_at, take-append-le, drop-append-le, take-append-add, drop-append-add, length-take-le, drop-drop}
use Rattle.model.specs.Lists.{part, insert_at}
use Rattle.slices.specs.Words.{splice, remove_at}

-- ---- parts and splices of a list that is put together

pub take_on : (a b : List ℕ) (n k : ℕ) → length a ≡ n → take (n + k) (a ++ b) ≡ a ++ take k b
take_on a b n k e = rw (← e) (take-append-add a b k)

pub drop_on : (a b : List ℕ) (n k : ℕ) → length a ≡ n → drop (n + k) (a ++ b) ≡ drop k b
drop_on a b n k e = rw (← e) (drop-append-add a b k)

pub part_right : (a b : List ℕ) (n k m : ℕ) → length a ≡ n → part (a ++ b) (n + k) m ≡ part b k m
unfolding part
part_right a b n k m e = ap (λ (l : List ℕ). take m l) (drop_on a b n k e)

pub part_left : (a b : List ℕ) (k m : ℕ) → k + m ≤ length a → part (a ++ b) k m ≡ part a k m
unfolding part
part_left a b k m h =
    ap (λ (l : List ℕ). take m l) (drop-append-le k a b (omega arith))
    ∙ take-append-le m (drop k a) b (simp length-drop (omega arith))

pub splice_right : (a b : List ℕ) (n k m : ℕ) (q : List ℕ) → length a ≡ n → splice (a ++ b) (n + k) m q ≡ a ++ splice b k m q
unfolding splice
splice_right a b n k m q e =
    ap (λ (l : List ℕ). l ++ (q ++ drop m (drop (n + k) (a ++ b)))) (take_on a b n k e)
    ∙ ap (λ (l : List ℕ). (a ++ take k b) ++ (q ++ drop m l)) (drop_on a b n k e)
    ∙ append_assoc a (take k b) (q ++ drop m (drop k b))

pub splice_left : (a b : List ℕ) (k m : ℕ) (q : List ℕ) → k + m ≤ length a → splice (a ++ b) k m q ≡ splice a k m q ++ b
unfolding splice
splice_left a b k m q h =
    let d : drop m (drop k (a ++ b)) ≡ drop m (drop k a) ++ b =
    ap (λ (l : List ℕ). drop m l) (drop-append-le k a b (omega arith))
    ∙ drop-append-le m (drop k a) b (simp length-drop (omega arith)) in
    ap (λ (l : List ℕ). l ++ (q ++ drop m (drop k (a ++ b)))) (take-append-le k a b (omega arith))
    ∙ ap (λ (l : List ℕ). take k a ++ (q ++ l)) d
    ∙ simp append_assoc

-- ---- a splice, seen from the whole list

module _ (l : List ℕ) (i n : ℕ) (inside : i + n ≤ length l) where
  head_length : length (take i l) ≡ i
  head_length = length-take-le i l (omega arith)

  pub part_length : length (part l i n) ≡ n
  unfolding part
  part_length = length-take-le n (drop i l) (simp length-drop (omega arith))

  pub splice_length : (p : List ℕ) → length p ≡ n → length (splice l i n p) ≡ length l
  unfolding splice
  splice_length p e = simp (length-append, length-drop) (omega (arith, head_length))

-- a store is a splice of one word, and a word read is a part of one word
pub set_splice : (l : List ℕ) (i v : ℕ) → i < length l → set l i v ≡ splice l i 1 (v ∷ [])
unfolding splice
set_splice [] i v h = absurd (not-suc-le-zero h)
set_splice (x ∷ l) zero v h = refl
set_splice (x ∷ l) (suc i) v h = ap (λ (t : List ℕ). x ∷ t) (set_splice l i v (le_of_suc-le-suc h))

get_part : (l : List ℕ) (i : ℕ) → i < length l → part l i 1 ≡ get_or l i 0 ∷ []
unfolding part
get_part [] i h = absurd (not-suc-le-zero h)
get_part (x ∷ l) zero h = refl
get_part (x ∷ l) (suc i) h = get_part l i (le_of_suc-le-suc h)

-- ---- a word of a list with a splice, outside of it
pub word : (l k : List ℕ) (i : ℕ) → i < length l → i < length k → part l i 1 ≡ part k i 1 → get_or l i 0 ≡ get_or k i 0
word l k i h g e = ap (λ (t : List ℕ). get_or t 0 0) (sym (get_part l i h) ∙ e ∙ get_part k i g)

-- ---- a part that grows by a word at its end
pub part_more : (l : List ℕ) (i n : ℕ) → i + n < length l → part l i (n + 1) ≡ part l i n ++ (get_or l (i + n) 0 ∷ [])
unfolding part
part_more l i n h =
    rw (add-one n, ← get_or-drop i l n 0) (take-suc (drop i l) n 0 (simp length-drop (omega arith)))

pub insert_last : {A : Type 0} (s : List A) (v : A) → insert_at s (length s) v ≡ s ++ (v ∷ [])
unfolding insert_at
insert_last s v = rw (take-length s, drop-length s)

-- ---- a part that was lent and has come back: what lies around it, as the borrow checker has it, is a splice
pub lent : (l : List ℕ) (i e n : ℕ) (p : List ℕ) → e ≡ i + n → take i l ++ (p ++ drop (e - i) (drop i l)) ≡ splice l i n p
unfolding splice
lent l i e n p h =
    let d : e - i ≡ n = omega arith in
    rw d refl

-- what was lent, cleared
pub lent_cleared : (l : List ℕ) (i e n : ℕ) (p : List ℕ) → e ≡ i + n → e ≤ length l → p ≡ replicate (length (take (e - i) (drop i l))) 0 → take i l ++ (p ++ drop (e - i) (drop i l)) ≡ splice l i n (replicate n 0)
unfolding part
lent_cleared l i e n p h g q =
    let d : e - i ≡ n = omega arith in
    lent l i e n p h ∙ ap (λ (t : List ℕ). splice l i n t) (q ∙ rw (d, part_length l i n (omega arith)) refl)

-- ---- what is put in, in any list
module _ {A : Type 0} where
  pub insert_length : (l : List A) (i : ℕ) (x : A) → i ≤ length l → length (insert_at l i x) ≡ length l + 1
  unfolding insert_at
  insert_length l i x h = simp (length-append, length-drop) (omega (arith, length-take-le i l h))

  pub insert_append : (l t : List A) (i : ℕ) (x : A) → i ≤ length l → insert_at (l ++ t) i x ≡ insert_at l i x ++ t
  unfolding insert_at
  insert_append l t i x h = rw (take-append-le i l t h, drop-append-le i l t h) (sym (append_assoc (take i l) (x ∷ drop i l) t))

  pub remove_length : (l : List A) (i : ℕ) → i < length l → length (remove_at l i) + 1 ≡ length l
  unfolding remove_at
  remove_length l i h = simp (length-append, length-drop) (omega (arith, length-take-le i l (omega arith)))

  -- a word taken out: what is before it and what is after it
  pub take_remove : (l : List A) (i : ℕ) → i ≤ length l → take i (remove_at l i) ≡ take i l
  unfolding remove_at
  take_remove l i h = take_at (take i l) (drop 1 (drop i l)) i (length-take-le i l h)

  pub drop_remove : (l : List A) (i : ℕ) → i ≤ length l → drop i (remove_at l i) ≡ drop (i + 1) l
  unfolding remove_at
  drop_remove l i h = drop_at (take i l) (drop 1 (drop i l)) i (length-take-le i l h) ∙ drop-drop 1 i l

pub map_insert : {A B : Type 0} (f : A → B) (l : List A) (i : ℕ) (x : A) → map f (insert_at l i x) ≡ insert_at (map f l) i (f x)
unfolding insert_at
map_insert f l zero x = refl
map_insert f [] (suc i) x = refl
map_insert f (y ∷ l) (suc i) x = ap (λ (t : List _). f y ∷ t) (map_insert f l i x)

-- what is lent is a part
pub lent_out : (l : List ℕ) (i e n : ℕ) → e ≡ i + n → take (e - i) (drop i l) ≡ part l i n
unfolding part
lent_out l i e n h =
    let d : e - i ≡ n = omega arith in
    rw d refl

-- what was lent and has become f of what it was
pub lent_as : (l : List ℕ) (i e n : ℕ) (p : List ℕ) (f : List ℕ → List ℕ) → e ≡ i + n → p ≡ f (take (e - i) (drop i l)) → take i l ++ (p ++ drop (e - i) (drop i l)) ≡ splice l i n (f (part l i n))
lent_as l i e n p f h q = lent l i e n p h ∙ ap (λ (t : List ℕ). splice l i n t) (q ∙ ap f (lent_out l i e n h))

-- a word of a part
pub word_part : (l : List ℕ) (i n k : ℕ) → k < n → get_or (part l i n) k 0 ≡ get_or l (i + k) 0
unfolding part
word_part l i n k h = get_or-take n (drop i l) k 0 h ∙ get_or-drop i l k 0

module _ {A B : Type 0} (f : A → B) where
  pub map_take : (n : ℕ) (l : List A) → map f (take n l) ≡ take n (map f l)
  map_take zero l = refl
  map_take (suc n) [] = refl
  map_take (suc n) (x ∷ l) = ap (λ (t : List B). f x ∷ t) (map_take n l)

  pub map_drop : (n : ℕ) (l : List A) → map f (drop n l) ≡ drop n (map f l)
  map_drop zero l = refl
  map_drop (suc n) [] = refl
  map_drop (suc n) (x ∷ l) = map_drop n l

  pub map_remove : (l : List A) (i : ℕ) → map f (remove_at l i) ≡ remove_at (map f l) i
  unfolding remove_at
  map_remove [] zero = refl
  map_remove [] (suc i) = refl
  map_remove (x ∷ l) zero = refl
  map_remove (x ∷ l) (suc i) = ap (λ (t : List B). f x ∷ t) (map_remove l i)

  pub map_set : (l : List A) (i : ℕ) (x : A) → map f (set l i x) ≡ set (map f l) i (f x)
  map_set [] i x = refl
  map_set (y ∷ l) zero x = refl
  map_set (y ∷ l) (suc i) x = ap (λ (t : List B). f y ∷ t) (map_set l i x)

-- two words written after a prefix
two : (a : List ℕ) (k v x y : ℕ) (d : List ℕ) (i : ℕ) → length a ≡ i → set (set (a ++ x ∷ y ∷ d) i k) (i + 1) v ≡ (a ++ k ∷ v ∷ []) ++ d
two a k v x y d i e =
    ap (λ (l : List ℕ). set l (i + 1) v) (set_at a x (y ∷ d) k i e ∙ sym (append_assoc a (k ∷ []) (y ∷ d)))
    ∙ (set_at (a ++ k ∷ []) y d v (i + 1) (length-append a (k ∷ []) ∙ omega arith) ∙ simp append_assoc)

pub set_two : (a : List ℕ) (k v : ℕ) (o : List ℕ) (i : ℕ) → length a ≡ i → i + 2 ≤ length o → set (set (a ++ drop i o) i k) (i + 1) v ≡ (a ++ k ∷ v ∷ []) ++ drop (i + 2) o
set_two a k v o i e l =
    ap (λ (d : List ℕ). set (set (a ++ d) i k) (i + 1) v) (drop-cons o i 0 (omega arith) ∙ ap (λ (d : List ℕ). get_or o i 0 ∷ d) (drop-cons o (suc i) 0 (omega arith) ∙ ap (λ (j : ℕ). get_or o (suc i) 0 ∷ drop j o) (let z : suc (suc i) ≡ i + 2 = omega arith in z)))
    ∙ two a k v (get_or o i 0) (get_or o (suc i) 0) (drop (i + 2) o) i e
