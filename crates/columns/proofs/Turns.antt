-- Words put in and taken out of eleven in a fixed number of turns: each word is written anew, as it shall be.
-- Assumes nothing.
use Prim.Native.Nat.{ℕ, zero, suc, ◌+◌, ◌-◌, ◌≤◌, ◌<◌}
use native.Mathlib.Nat.{not-suc-le-zero, le_of_suc-le-suc}
use native.Mathlib.Numerals.{add-one}
use native.Mathlib.Omega.{arith}
use mathlib.Core.Path.{◌≡◌, refl, sym, ap, ◌∙◌, subst}
use mathlib.Core.List.{List, [], ◌∷◌, ◌++◌, append_assoc, append-nil}
use lib.ListN.{length, take, drop, get_or, set, replicate, length-append, length-replicate, replicate-append-replicate}
use lib.Seq.{get_or-take, length-take-le}
use Rattle.model.specs.Lists.{part, pad, insert_at}
use Rattle.slices.specs.Words.{splice, remove_at}
use Rattle.slices.proofs.Laws.{insert_length, insert_append, remove_length}
use Rattle.node.proofs.Pad.{pad_insert, pad_remove}

-- ---- a list that is written over by another, from one end on

abbrev pub mix : List ℕ → List ℕ → ℕ → List ℕ
mix a b m = take m a ++ drop m b

pub mix_low : (a b : List ℕ) (m j : ℕ) → j < m → j < length a → get_or (mix a b m) j 0 ≡ get_or a j 0
mix_low [] b m j l u = absurd (not-suc-le-zero u)
mix_low (x ∷ a) b zero j l u = absurd (not-suc-le-zero l)
mix_low (x ∷ a) b (suc m) zero l u = refl
mix_low (x ∷ a) [] (suc m) (suc j) l u = rest a m j (le_of_suc-le-suc l) (le_of_suc-le-suc u)
  where
    rest : (a : List ℕ) (m j : ℕ) → j < m → j < length a → get_or (take m a ++ []) j 0 ≡ get_or a j 0
    rest a m j l u = rw append-nil (get_or-take m a j 0 l)
mix_low (x ∷ a) (y ∷ b) (suc m) (suc j) l u = mix_low a b m j (le_of_suc-le-suc l) (le_of_suc-le-suc u)

pub mix_high : (a b : List ℕ) (m j : ℕ) → m ≤ j → length a ≡ length b → get_or (mix a b m) j 0 ≡ get_or b j 0
mix_high a b zero j l e = refl
mix_high a b (suc m) zero l e = absurd (not-suc-le-zero l)
mix_high [] [] (suc m) (suc j) l e = refl
mix_high [] (y ∷ b) (suc m) (suc j) l e = absurd (omega arith)
mix_high (x ∷ a) [] (suc m) (suc j) l e = absurd (omega arith)
mix_high (x ∷ a) (y ∷ b) (suc m) (suc j) l e = mix_high a b m j (le_of_suc-le-suc l) (omega arith)

pub mix_long : (a b : List ℕ) (m : ℕ) → length a ≡ length b → length (mix a b m) ≡ length b
mix_long a b zero e = refl
mix_long [] [] (suc m) e = refl
mix_long [] (y ∷ b) (suc m) e = absurd (omega arith)
mix_long (x ∷ a) [] (suc m) e = absurd (omega arith)
mix_long (x ∷ a) (y ∷ b) (suc m) e = let z = mix_long a b m (omega arith) in omega arith

pub mix_all : (a b : List ℕ) → length a ≡ length b → mix a b (length b) ≡ a
mix_all [] [] e = refl
mix_all [] (y ∷ b) e = absurd (omega arith)
mix_all (x ∷ a) [] e = absurd (omega arith)
mix_all (x ∷ a) (y ∷ b) e = ap (λ (t : List ℕ). x ∷ t) (mix_all a b (omega arith))

-- one word more of a, upwards
pub mix_up : (a b : List ℕ) (j v : ℕ) → j < length b → length a ≡ length b → v ≡ get_or a j 0 → set (mix a b j) j v ≡ mix a b (j + 1)
mix_up a b j v l e q = rw (add-one, q) (go a b j l e)
  where
    go : (a b : List ℕ) (j : ℕ) → j < length b → length a ≡ length b → set (mix a b j) j (get_or a j 0) ≡ mix a b (suc j)
    go a [] j l e = absurd (not-suc-le-zero l)
    go [] (y ∷ b) j l e = absurd (omega arith)
    go (x ∷ a) (y ∷ b) zero l e = refl
    go (x ∷ a) (y ∷ b) (suc j) l e = ap (λ (t : List ℕ). x ∷ t) (go a b j (le_of_suc-le-suc l) (omega arith))

-- one word more of b, downwards
pub mix_down : (a b : List ℕ) (j v : ℕ) → j < length b → length a ≡ length b → v ≡ get_or b j 0 → set (mix a b (j + 1)) j v ≡ mix a b j
mix_down a b j v l e q = rw (add-one, q) (go a b j l e)
  where
    go : (a b : List ℕ) (j : ℕ) → j < length b → length a ≡ length b → set (mix a b (suc j)) j (get_or b j 0) ≡ mix a b j
    go a [] j l e = absurd (not-suc-le-zero l)
    go [] (y ∷ b) j l e = absurd (omega arith)
    go (x ∷ a) (y ∷ b) zero l e = refl
    go (x ∷ a) (y ∷ b) (suc j) l e = ap (λ (t : List ℕ). x ∷ t) (go a b j (le_of_suc-le-suc l) (omega arith))

-- ---- the words of a list with one put in, and with one taken out

get_doubled : (s : List ℕ) (i j : ℕ) → j ≤ i → i < length s → get_or (insert_at s i (get_or s i 0)) j 0 ≡ get_or s j 0
unfolding insert_at
get_doubled [] i j l u = absurd (not-suc-le-zero u)
get_doubled (x ∷ s) zero zero l u = refl
get_doubled (x ∷ s) zero (suc j) l u = absurd (not-suc-le-zero l)
get_doubled (x ∷ s) (suc i) zero l u = refl
get_doubled (x ∷ s) (suc i) (suc j) l u = get_doubled s i j (le_of_suc-le-suc l) (le_of_suc-le-suc u)

get_insert_high : (s : List ℕ) (i v j : ℕ) → i ≤ j → get_or (insert_at s i v) (suc j) 0 ≡ get_or s j 0
unfolding insert_at
get_insert_high [] zero v j l = refl
get_insert_high [] (suc i) v j l = refl
get_insert_high (x ∷ s) zero v j l = refl
get_insert_high (x ∷ s) (suc i) v zero l = absurd (not-suc-le-zero l)
get_insert_high (x ∷ s) (suc i) v (suc j) l = get_insert_high s i v j (le_of_suc-le-suc l)

get_end : (s : List ℕ) (j : ℕ) → get_or (s ++ 0 ∷ []) j 0 ≡ get_or s j 0
get_end [] zero = refl
get_end [] (suc j) = refl
get_end (x ∷ s) zero = refl
get_end (x ∷ s) (suc j) = get_end s j

get_remove_low : (s : List ℕ) (i j : ℕ) → j < i → get_or (remove_at s i ++ 0 ∷ []) j 0 ≡ get_or s j 0
unfolding remove_at
get_remove_low s zero j l = absurd (not-suc-le-zero l)
get_remove_low [] (suc i) zero l = refl
get_remove_low [] (suc i) (suc j) l = refl
get_remove_low (x ∷ s) (suc i) zero l = refl
get_remove_low (x ∷ s) (suc i) (suc j) l = get_remove_low s i j (le_of_suc-le-suc l)

get_remove_high : (s : List ℕ) (i j : ℕ) → i ≤ j → get_or (remove_at s i ++ 0 ∷ []) j 0 ≡ get_or s (suc j) 0
unfolding remove_at
get_remove_high [] zero zero l = refl
get_remove_high [] zero (suc j) l = refl
get_remove_high [] (suc i) zero l = refl
get_remove_high [] (suc i) (suc j) l = refl
get_remove_high (x ∷ s) zero j l = get_end s j
get_remove_high (x ∷ s) (suc i) zero l = absurd (not-suc-le-zero l)
get_remove_high (x ∷ s) (suc i) (suc j) l = get_remove_high s i j (le_of_suc-le-suc l)

-- a word put in, and another in its place
anew : (s : List ℕ) (i n v x : ℕ) → i < length s → set (take n (insert_at s i v)) i x ≡ take n (insert_at s i x)
unfolding insert_at
anew [] i n v x o = absurd (not-suc-le-zero o)
anew (y ∷ s) zero zero v x o = refl
anew (y ∷ s) zero (suc n) v x o = refl
anew (y ∷ s) (suc i) zero v x o = refl
anew (y ∷ s) (suc i) (suc n) v x o = ap (λ (t : List ℕ). y ∷ t) (anew s i n v x (le_of_suc-le-suc o))

-- ---- the turns of open_words: what it writes is s with the word at i doubled

abbrev pub doubled : List ℕ → ℕ → List ℕ
doubled s i = take (length s) (insert_at s i (get_or s i 0))

module _ (s : List ℕ) (i : ℕ) (o : i < length s) where
  pub doubled_long : length (doubled s i) ≡ length s
  doubled_long = length-take-le (length s) (insert_at s i (get_or s i 0)) (omega (arith, insert_length s i (get_or s i 0) (omega arith)))

  -- the word j is written, those above it are
  pub turn_kept : (j : ℕ) → j < length s → j ≤ i → get_or (mix s (doubled s i) (j + 1)) j 0 ≡ get_or (doubled s i) j 0
  turn_kept j l u = mix_low s (doubled s i) (j + 1) j (omega arith) l ∙ sym (get_or-take (length s) (insert_at s i (get_or s i 0)) j 0 l ∙ get_doubled s i j u o)

  pub turn_moved : (j : ℕ) → j < length s → i < j → get_or (mix s (doubled s i) (j + 1)) (j - 1) 0 ≡ get_or (doubled s i) j 0
  turn_moved j l u =
      let z : suc (j - 1) ≡ j = omega arith in
      mix_low s (doubled s i) (j + 1) (j - 1) (omega arith) (omega arith)
      ∙ sym (get_or-take (length s) (insert_at s i (get_or s i 0)) j 0 l ∙ (ap (λ (k : ℕ). get_or (insert_at s i (get_or s i 0)) k 0) (sym z) ∙ get_insert_high s i (get_or s i 0) (j - 1) (omega arith)))

  -- at the end the word comes in
  pub turned : (x : ℕ) → set (mix s (doubled s i) 1) i x ≡ take (length s) (insert_at s i x)
  turned x = ap (λ (t : List ℕ). set t i x) (first s (doubled s i) (sym doubled_long) (sym (get_or-take (length s) (insert_at s i (get_or s i 0)) 0 0 (omega arith) ∙ get_doubled s i 0 (omega arith) o))) ∙ anew s i (length s) (get_or s i 0) x o
    where
      first : (a b : List ℕ) → length a ≡ length b → get_or a 0 0 ≡ get_or b 0 0 → mix a b 1 ≡ b
      first [] [] e q = refl
      first [] (y ∷ b) e q = absurd (omega arith)
      first (x ∷ a) [] e q = absurd (omega arith)
      first (x ∷ a) (y ∷ b) e q = ap (λ (t : ℕ). t ∷ b) q

-- ---- the turns of close_words

abbrev pub lessened : List ℕ → ℕ → List ℕ
lessened s i = remove_at s i ++ 0 ∷ []

past : (s : List ℕ) (j : ℕ) → length s ≤ j → get_or s j 0 ≡ 0
past [] j l = refl
past (x ∷ s) zero l = absurd (not-suc-le-zero l)
past (x ∷ s) (suc j) l = past s j (le_of_suc-le-suc l)

module _ (s : List ℕ) (i : ℕ) (o : i < length s) where
  pub lessened_long : length (lessened s i) ≡ length s
  lessened_long = length-append (remove_at s i) (0 ∷ []) ∙ remove_length s i o

  pub close_kept : (j : ℕ) → j < i → get_or (mix (lessened s i) s j) j 0 ≡ get_or (lessened s i) j 0
  close_kept j u = mix_high (lessened s i) s j j (omega arith) lessened_long ∙ sym (get_remove_low s i j u)

  pub close_moved : (j : ℕ) → i ≤ j → get_or (mix (lessened s i) s j) (j + 1) 0 ≡ get_or (lessened s i) j 0
  close_moved j u = mix_high (lessened s i) s j (j + 1) (omega arith) lessened_long ∙ (ap (λ (k : ℕ). get_or s k 0) (add-one j) ∙ sym (get_remove_high s i j u))

  -- at the end the last word is cleared
  pub closed : (j : ℕ) → j + 1 ≡ length s → set (mix (lessened s i) s j) j 0 ≡ lessened s i
  closed j e =
      mix_up (lessened s i) s j 0 (omega arith) lessened_long (sym (get_remove_high s i j (omega arith) ∙ past s (suc j) (omega arith)))
      ∙ (ap (mix (lessened s i) s) e ∙ mix_all (lessened s i) s lessened_long)

-- ---- a whole column, with words not in use

zeros : (m : ℕ) (l : List ℕ) (c : ℕ) → length l + c ≤ m → pad m (l ++ replicate c 0) ≡ pad m l
unfolding pad
zeros m l c h =
    let n : length (l ++ replicate c 0) ≡ length l + c = simp (length-append, length-replicate) refl in
    let z : c + (m - length (l ++ replicate c 0)) ≡ m - length l = omega arith in
    append_assoc l (replicate c 0) (replicate (m - length (l ++ replicate c 0)) 0)
    ∙ ap (λ (t : List ℕ). l ++ t) (replicate-append-replicate {A = ℕ} c (m - length (l ++ replicate c 0)) 0 ∙ ap (λ (t : ℕ). replicate t 0) z)

remove_on : (s t : List ℕ) (i : ℕ) → i < length s → remove_at (s ++ t) i ≡ remove_at s i ++ t
unfolding remove_at
remove_on [] t i h = absurd (not-suc-le-zero h)
remove_on (x ∷ s) t zero h = refl
remove_on (x ∷ s) t (suc i) h = ap (λ (l : List ℕ). x ∷ l) (remove_on s t i (le_of_suc-le-suc h))

module _ (m : ℕ) (l : List ℕ) (i n : ℕ) (fits : n ≤ m) where
  pub pad_opened : (x : ℕ) → length l < n → i ≤ length l → splice (pad m l) 0 n (take (length (part (pad m l) 0 n)) (insert_at (part (pad m l) 0 n) i x)) ≡ pad m (insert_at l i x)
  pad_opened x u o =
      let c = n - length l - 1 in
      let g : length (l ++ replicate c 0) ≡ length l + c = simp (length-append, length-replicate) refl in
      let f = insert_length l i x o in
      subst (λ (t : List ℕ). splice t 0 n (take (length (part t 0 n)) (insert_at (part t 0 n) i x)) ≡ pad m (insert_at l i x)) (zeros m l c (omega arith)) (
      pad_insert m (l ++ replicate c 0) i x n (omega arith) fits (omega arith)
      ∙ (ap (pad m) (insert_append l (replicate c 0) i x o) ∙ zeros m (insert_at l i x) c (omega arith)))

  pub pad_closed : length l ≤ n → i < length l → splice (pad m l) 0 n (remove_at (part (pad m l) 0 n) i ++ 0 ∷ []) ≡ pad m (remove_at l i)
  pad_closed u o =
      let c = n - length l in
      let g : length (l ++ replicate c 0) ≡ length l + c = simp (length-append, length-replicate) refl in
      let f = remove_length l i o in
      subst (λ (t : List ℕ). splice t 0 n (remove_at (part t 0 n) i ++ 0 ∷ []) ≡ pad m (remove_at l i)) (zeros m l c (omega arith)) (
      pad_remove m (l ++ replicate c 0) i n (omega arith) fits (omega arith)
      ∙ (ap (pad m) (remove_on l (replicate c 0) i o) ∙ zeros m (remove_at l i) c (omega arith)))

-- a word of it
pub pad_word : (m : ℕ) (l : List ℕ) (n i : ℕ) → i < n → get_or (part (pad m l) 0 n) i 0 ≡ get_or l i 0
unfolding part pad
pad_word m l n i u = get_or-take n (l ++ replicate (m - length l) 0) i 0 u ∙ go (m - length l) l i
  where
    none : (c i : ℕ) → get_or {A = ℕ} (replicate c 0) i 0 ≡ 0
    none zero i = refl
    none (suc c) zero = refl
    none (suc c) (suc i) = none c i

    go : (c : ℕ) (l : List ℕ) (i : ℕ) → get_or (l ++ replicate c 0) i 0 ≡ get_or l i 0
    go c [] i = none c i
    go c (x ∷ l) zero = refl
    go c (x ∷ l) (suc i) = go c l i
