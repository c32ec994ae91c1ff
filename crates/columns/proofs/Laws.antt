-- What the moves in columns leave: a part of a column lent, words moved from a column of one node to that of another.
-- Assumes nothing.
use Prim.Native.Nat.{ℕ, ◌+◌, ◌-◌, ◌≤◌, ◌<◌}
use mathlib.Core.Path.{◌≡◌, refl, sym, ap, ◌∙◌}
use mathlib.Core.Logic.{◌⊎◌, inl, inr, ◌≢◌}
use mathlib.Core.List.{List, [], ◌∷◌, ◌++◌}
use native.Mathlib.Decide.{dec_lt}
use native.Mathlib.Omega.{arith}
use lib.ListN.{length, take, drop, get_or, set, replicate, length-set, length-append, length-drop, length-replicate}
use lib.Seq.{drop_at, get_or-set_same, get_or-set_other, set-set, set_comm, length-take-le}
use Rattle.model.specs.Lists.{part, pad, insert_at}
use Rattle.model.specs.Layout.{most, base, blank}
use Rattle.slices.specs.Words.{splice, remove_at, moved}
use Rattle.slices.proofs.Laws.{lent_out, lent_as, insert_length, remove_length, set_splice}
use Rattle.node.specs.Fields.{Fields, fields_of, Column, key_column, val_column, edge_column, start_of, room_of, column, with_column, row, Stored}
use Rattle.node.proofs.Pad.{pad_set, pad_all, pad_insert, pad_remove, pad_shl, pad_shr, pad_cut, pad_part, pad_lay, pad_append, pad_uncover, pad_rest}
use Rattle.columns.proofs.Turns.{pad_opened, pad_closed, pad_word}
use Rattle.node.proofs.Fields.{stored_part, stored_splice, stored_length, room_in}
use Rattle.columns.specs.Columns.{In, put_column, put_columns}

pub apart : (n m : ℕ) → n ≢ m → (n < m) ⊎ (m < n)
apart n m d = go (dec_lt n m)
  where
    go : Dec (n < m) → (n < m) ⊎ (m < n)
    go (yes h) = inl h
    go (no b) = inr (more (dec_lt m n))
      where
        more : Dec (m < n) → m < n
        more (yes h) = h
        more (no e) = absurd (d (omega arith))

-- every column has room for a word of each pair
pub room_most : (k : Column) → most ≤ room_of k
room_most key_column = omega arith
room_most val_column = omega arith
room_most edge_column = omega arith

module _ {w h : List ℕ} {fs : List Fields} (a : Stored w h fs) (k : Column) where
  -- the first m words of a column, lent, have come back as f of them
  column_lent : (n m s e : ℕ) (p : List ℕ) (f : List ℕ → List ℕ) (xs : List ℕ) → n < length fs → s ≡ base n + start_of k → e ≡ s + m → m ≤ room_of k → length xs ≤ room_of k → p ≡ f (take (e - s) (drop s w)) → splice (pad (room_of k) (column k (row fs n))) 0 m (f (part (pad (room_of k) (column k (row fs n))) 0 m)) ≡ pad (room_of k) xs → Stored (take s w ++ (p ++ drop (e - s) (drop s w))) h (put_column fs n k xs)
  column_lent n m s e p f xs o d g l y q z =
      let b : s ≡ base n + (start_of k + 0) = omega arith in
      let i : 0 + m ≤ room_of k = omega arith in
      rw (lent_as w s e m p f g q, b, stored_part a k n 0 m o i) (stored_splice a k n 0 m (f (part (pad (room_of k) (column k (row fs n))) 0 m)) xs o i y z)

  -- a word of a column made to v
  pub word_replaced : (n i v p : ℕ) → n < length fs → p ≡ base n + (start_of k + i) → i < length (column k (row fs n)) → Stored (set w p v) h (put_column fs n k (set (column k (row fs n)) i v))
  word_replaced n i v p o e l =
      let f = a.fits n o k in
      rw (e, set_splice w (base n + (start_of k + i)) v (omega (arith, stored_length a, room_in k))) (stored_splice a k n i 1 (v ∷ []) (set (column k (row fs n)) i v) o (omega arith) (rw length-set f) (pad_set (room_of k) (column k (row fs n)) i v l))

  -- c words moved from the place i of l's column to the place j of r's
  column_moved : (l r i j c p q : ℕ) (xs ys : List ℕ) → l < length fs → r < length fs → l ≢ r → i + c ≤ room_of k → j + c ≤ room_of k → length xs ≤ room_of k → length ys ≤ room_of k → p ≡ base l + (start_of k + i) → q ≡ base r + (start_of k + j) → splice (pad (room_of k) (column k (row fs l))) i c (replicate c 0) ≡ pad (room_of k) xs → splice (pad (room_of k) (column k (row fs r))) j c (part (pad (room_of k) (column k (row fs l))) i c) ≡ pad (room_of k) ys → Stored (moved w p q c) h (put_columns fs l r k xs ys)
  unfolding moved
  column_moved l r i j c p q xs ys ol or d il ir lx ly ep eq zx zy =
      let u : Fields = with_column k ys (row fs r) in
      let s = stored_splice a k r j c (part (pad (room_of k) (column k (row fs l))) i c) ys or ir ly zy in
      let f : row (set fs r u) l ≡ row fs l = get_or-set_other fs r l u (fields_of blank) d in
      let g = stored_splice s k l i c (replicate c 0) xs (rw length-set ol) il lx (rw f zx) in
      rw (ep, eq, stored_part a k l i c ol il) (rw (f, set_comm fs r l u (with_column k xs (row fs l)) (λ e. d (sym e))) at g)

  module _ (n start count s : ℕ) (x : In fs n k start count) (at : s ≡ base n + start) where
    here : s ≡ base n + start_of k
    here = at ∙ ap (λ (t : ℕ). base n + t) x.start_is

    pub word_inserted : (e i v : ℕ) (p : List ℕ) → e ≡ s + (count + 1) → count < room_of k → i ≤ count → p ≡ take (length (take (e - s) (drop s w))) (insert_at (take (e - s) (drop s w)) i v) → Stored (take s w ++ (p ++ drop (e - s) (drop s w))) h (put_column fs n k (insert_at (column k (row fs n)) i v))
    word_inserted e i v p d r o q =
        let l = x.count_is in
        column_lent n (count + 1) s e p (λ (t : List ℕ). take (length t) (insert_at t i v)) (insert_at (column k (row fs n)) i v) x.node here d (omega arith)
        (rw (insert_length (column k (row fs n)) i v (omega arith)) (omega arith))
        q
        (pad_insert (room_of k) (column k (row fs n)) i v (count + 1) (omega arith) (omega arith) (omega arith))

    pub word_removed : (e i : ℕ) (p : List ℕ) → e ≡ s + count → i < count → p ≡ remove_at (take (e - s) (drop s w)) i ++ 0 ∷ [] → Stored (take s w ++ (p ++ drop (e - s) (drop s w))) h (put_column fs n k (remove_at (column k (row fs n)) i))
    word_removed e i p d o q =
        let l = x.count_is in
        let f = a.fits n x.node k in
        let g = remove_length (column k (row fs n)) i (omega arith) in
        column_lent n count s e p (λ (t : List ℕ). remove_at t i ++ 0 ∷ []) (remove_at (column k (row fs n)) i) x.node here d (omega arith) (omega arith) q (pad_remove (room_of k) (column k (row fs n)) i count l (omega arith) o)

    -- all words that a column can hold, lent
    pub column_opened : (e m i v : ℕ) (p : List ℕ) → e ≡ s + m → m ≤ room_of k → count < m → i ≤ count → p ≡ take (length (take (e - s) (drop s w))) (insert_at (take (e - s) (drop s w)) i v) → Stored (take s w ++ (p ++ drop (e - s) (drop s w))) h (put_column fs n k (insert_at (column k (row fs n)) i v))
    column_opened e m i v p d r u o q =
        let l = x.count_is in
        column_lent n m s e p (λ (t : List ℕ). take (length t) (insert_at t i v)) (insert_at (column k (row fs n)) i v) x.node here d r
        (rw (insert_length (column k (row fs n)) i v (omega arith)) (omega arith))
        q
        (pad_opened (room_of k) (column k (row fs n)) i m r v (omega arith) (omega arith))

    pub column_closed : (e m i : ℕ) (p : List ℕ) → e ≡ s + m → m ≤ room_of k → count ≤ m → i < count → p ≡ remove_at (take (e - s) (drop s w)) i ++ 0 ∷ [] → Stored (take s w ++ (p ++ drop (e - s) (drop s w))) h (put_column fs n k (remove_at (column k (row fs n)) i))
    column_closed e m i p d r u o q =
        let l = x.count_is in
        let g = remove_length (column k (row fs n)) i (omega arith) in
        column_lent n m s e p (λ (t : List ℕ). remove_at t i ++ 0 ∷ []) (remove_at (column k (row fs n)) i) x.node here d r (omega arith) q (pad_closed (room_of k) (column k (row fs n)) i m r (omega arith) (omega arith))

    -- a word of a column, lent
    pub column_word : (e m i : ℕ) → e ≡ s + m → m ≤ room_of k → i < m → get_or (take (e - s) (drop s w)) i 0 ≡ get_or (column k (row fs n)) i 0
    column_word e m i d r u =
        let b : s ≡ base n + (start_of k + 0) = omega (arith, here) in
        let z : part w s m ≡ part (pad (room_of k) (column k (row fs n))) 0 m = rw b (stored_part a k n 0 m x.node (omega arith)) in
        ap (λ (t : List ℕ). get_or t i 0) (lent_out w s e m d ∙ z) ∙ pad_word (room_of k) (column k (row fs n)) m i u

    -- the words in use, lent
    pub column_out : (e : ℕ) → e ≡ s + count → take (e - s) (drop s w) ≡ column k (row fs n)
    column_out e d =
        let l = x.count_is in
        let f = a.fits n x.node k in
        let b : s ≡ base n + (start_of k + 0) = omega (arith, here) in
        lent_out w s e count d ∙ rw b (stored_part a k n 0 count x.node (omega arith)) ∙ pad_all (room_of k) (column k (row fs n)) count l

    words_up : (e d : ℕ) (p : List ℕ) → e ≡ s + (count + d) → count + d ≤ room_of k → p ≡ replicate d 0 ++ take (length (take (e - s) (drop s w)) - d) (take (e - s) (drop s w)) → Stored (take s w ++ (p ++ drop (e - s) (drop s w))) h (put_column fs n k (replicate d 0 ++ column k (row fs n)))
    words_up e d p g r q =
        let l = x.count_is in
        column_lent n (count + d) s e p (λ (t : List ℕ). replicate d 0 ++ take (length t - d) t) (replicate d 0 ++ column k (row fs n)) x.node here g r
        (simp (length-append, length-replicate) (omega arith))
        q
        (pad_shr (room_of k) (column k (row fs n)) d (count + d) (omega arith) r)

    words_down : (e d : ℕ) (p : List ℕ) → e ≡ s + count → d ≤ count → p ≡ drop d (take (e - s) (drop s w)) ++ replicate d 0 → Stored (take s w ++ (p ++ drop (e - s) (drop s w))) h (put_column fs n k (drop d (column k (row fs n))))
    words_down e d p g r q =
        let l = x.count_is in
        let f = a.fits n x.node k in
        column_lent n count s e p (λ (t : List ℕ). drop d t ++ replicate d 0) (drop d (column k (row fs n))) x.node here g (omega arith)
        (simp length-drop (omega arith))
        q
        (pad_shl (room_of k) (column k (row fs n)) d count l (omega arith) r)

-- ---- a column made anew

column_of : (k : Column) (xs : List ℕ) (f : Fields) → column k (with_column k xs f) ≡ xs
column_of key_column xs f = refl
column_of val_column xs f = refl
column_of edge_column xs f = refl

-- and made anew once more
column_twice : (k : Column) (xs ys : List ℕ) (f : Fields) → with_column k ys (with_column k xs f) ≡ with_column k ys f
column_twice key_column xs ys f = refl
column_twice val_column xs ys f = refl
column_twice edge_column xs ys f = refl

module _ (fs : List Fields) (k : Column) (l r : ℕ) (ol : l < length fs) (or : r < length fs) (d : l ≢ r) where
  -- first that of r, then both
  right_first : (z xs ys : List ℕ) → put_columns (put_column fs r k z) l r k xs ys ≡ put_columns fs l r k xs ys
  right_first z xs ys =
      let f = with_column k z (row fs r) in
      rw (
        get_or-set_other fs r l f (fields_of blank) d,
        get_or-set_same fs r f (fields_of blank) or,
        column_twice k z ys (row fs r),
        set_comm fs r l f (with_column k xs (row fs l)) (λ e. d (sym e)),
      ) (set-set (set fs l (with_column k xs (row fs l))) r f (with_column k ys (row fs r)))

  -- first both, then that of r
  right_last : (z xs ys : List ℕ) → put_column (put_columns fs l r k xs z) r k ys ≡ put_columns fs l r k xs ys
  right_last z xs ys =
      let f = with_column k z (row fs r) in
      let g = set fs l (with_column k xs (row fs l)) in
      rw (get_or-set_same g r f (fields_of blank) (rw length-set or), column_twice k z ys (row fs r)) (set-set g r f (with_column k ys (row fs r)))

  right_now : (xs z : List ℕ) → column k (row (put_columns fs l r k xs z) r) ≡ z
  right_now xs z =
      let g = set fs l (with_column k xs (row fs l)) in
      ap (column k) (get_or-set_same g r (with_column k z (row fs r)) (fields_of blank) (rw length-set or)) ∙ column_of k z (row fs r)

-- ---- words moved from node to node

module _ {w h : List ℕ} {fs : List Fields} (a : Stored w h fs) (k : Column) (l r start at len : ℕ) (x : In fs l k start at) (y : In fs r k start len) (d : l ≢ r) where
  abbrev xs : List ℕ
  xs = column k (row fs l)

  abbrev ys : List ℕ
  ys = column k (row fs r)

  -- the words of r moved up by c; then the last c of l moved to where they were
  pub last_moved : (i c s e p : ℕ) (q : List ℕ) → at ≡ i + c → len + c ≤ room_of k → s ≡ base r + start → e ≡ s + (len + c) → p ≡ base l + (start + i) → q ≡ replicate c 0 ++ take (length (take (e - s) (drop s w)) - c) (take (e - s) (drop s w)) → Stored (moved (take s w ++ (q ++ drop (e - s) (drop s w))) p s c) h (put_columns fs l r k (take i xs) (drop i xs ++ ys))
  last_moved i c s e p q z g es ee ep f =
      let b = words_up a k r start len s y es e c q ee g f in
      let lx = x.count_is in
      let ly = y.count_is in
      let fx = a.fits l x.node k in
      let st = x.start_is in
      let u : Fields = with_column k (replicate c 0 ++ ys) (row fs r) in
      let rl : row (set fs r u) l ≡ row fs l = get_or-set_other fs r l u (fields_of blank) d in
      let rr : row (set fs r u) r ≡ u = get_or-set_same fs r u (fields_of blank) y.node in
      let cut : splice (pad (room_of k) xs) i c (replicate c 0) ≡ pad (room_of k) (take i xs) = pad_cut (room_of k) xs i c (omega arith) fx in
      let some : part (pad (room_of k) xs) i c ≡ drop i xs = pad_rest (room_of k) xs i c (omega arith) in
      let lay : splice (pad (room_of k) (replicate c 0 ++ ys)) 0 c (drop i xs) ≡ pad (room_of k) (drop i xs ++ ys) =
      pad_lay (room_of k) [] (replicate c 0) ys (drop i xs) 0 c refl (length-replicate c 0) (simp length-drop (omega arith)) in
      rw (right_first fs k l r x.node y.node d (replicate c 0 ++ ys) (take i xs) (drop i xs ++ ys)) at (
      column_moved b k l r i 0 c p s (take i xs) (drop i xs ++ ys) (rw length-set x.node) (rw length-set y.node) d (omega arith) (omega arith)
      (omega (arith, length-take-le i xs (omega arith)))
      (simp (length-append, length-drop) (omega arith))
      (omega arith) (omega arith) (rw rl cut) (rw (rl, rr, column_of k (replicate c 0 ++ ys) (row fs r), some) lay)
      )

  -- the first c words of r moved behind those of l; then the rest of r moved down
  pub first_moved : (c s e p : ℕ) (w' q : List ℕ) → at + c ≤ room_of k → c ≤ len → s ≡ base r + start → e ≡ s + len → p ≡ base l + (start + at) → w' ≡ moved w s p c → q ≡ drop c (take (e - s) (drop s w')) ++ replicate c 0 → Stored (take s w' ++ (q ++ drop (e - s) (drop s w'))) h (put_columns fs l r k (xs ++ take c ys) (drop c ys))
  unfolding part
  first_moved c s e p w' q g m es ee ep ew f =
      let lx = x.count_is in
      let ly = y.count_is in
      let fy = a.fits r y.node k in
      let st = x.start_is in
      let b : Stored w' h (put_columns fs r l k (replicate c 0 ++ drop c ys) (xs ++ take c ys)) =
      rw ew (
      column_moved a k r l 0 at c s p (replicate c 0 ++ drop c ys) (xs ++ take c ys) y.node x.node (λ z. d (sym z)) (omega arith) (omega arith)
      (simp (length-append, length-drop, length-replicate) (omega arith))
      (rw length-append (omega (arith, length-take-le c ys (omega arith))))
      (omega arith) (omega arith)
      (pad_uncover (room_of k) ys c (omega arith))
      (rw (pad_part (room_of k) ys 0 c (omega arith)) (pad_append (room_of k) xs (take c ys) at c (sym lx) (length-take-le c ys (omega arith)) g))
      ) in
      let b' : Stored w' h (put_columns fs l r k (xs ++ take c ys) (replicate c 0 ++ drop c ys)) = rw (set_comm fs r l _ _ (λ z. d (sym z))) at b in
      let t = right_now fs k l r x.node y.node d (xs ++ take c ys) (replicate c 0 ++ drop c ys) in
      let v : drop c (column k (row (put_columns fs l r k (xs ++ take c ys) (replicate c 0 ++ drop c ys)) r)) ≡ drop c ys = rw t (drop_at (replicate c 0) (drop c ys) c (length-replicate c 0)) in
      let y' : In (put_columns fs l r k (xs ++ take c ys) (replicate c 0 ++ drop c ys)) r k start len =
      record { node = rw (length-set, length-set) y.node; start_is = y.start_is; count_is = rw t (simp (length-append, length-drop, length-replicate) (omega arith)) } in
      rw (right_last fs k l r x.node y.node d (replicate c 0 ++ drop c ys) (xs ++ take c ys) (drop c ys)) at (rw v at (words_down b' k r start len s y' es e c q ee m f))
