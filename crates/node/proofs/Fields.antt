-- Where the fields of a node stand among the words of the arena, and what the arena holds when one of them changes.
-- Assumes nothing.
use Prim.Native.Nat.{ℕ, zero, suc, ◌+◌, ◌*◌, ◌≤◌, ◌<◌}
use mathlib.Core.Path.{◌≡◌, refl, sym, ap, ◌∙◌}
use mathlib.Core.List.{List, [], ◌∷◌, ◌++◌, map, append_assoc}
use native.Mathlib.Nat.{not-suc-le-zero}
use native.Mathlib.Decide.{ℕ_discrete}
use native.Mathlib.Omega.{arith}
use lib.Dec.{lit<}
use lib.ListN.{length, get_or, set, length-append, length-map, length-set, get_or-append}
use lib.Seq.{get_or-set_same, get_or-set_other, set-append_left, set-set}
use Rattle.model.specs.Lists.{part, pad}
use Rattle.model.specs.Layout.{header_size, node_size, base, most, state_word, length_word, parent_word, place_word, total_word, frame, NodeVal, node_words_by, node_words, cells, arena_by, nth, blank, Small, Arena}
use Rattle.slices.specs.Words.{splice}
use Rattle.slices.proofs.Laws.{part_right, part_left, splice_right, splice_left, word_part, set_splice}
use Rattle.node.specs.Fields.{Fields, fields_of, field_words, Column, key_column, val_column, edge_column, start_of, room_of, column, with_column, numbered, totalled, Fits, rows, row, Stored}
use Rattle.node.proofs.Pad.{pad_length, pad_word}

set_end : (l : List ℕ) (x y n : ℕ) → length l ≡ n → set (l ++ (x ∷ [])) n y ≡ l ++ (y ∷ [])
set_end [] x y zero e = refl
set_end [] x y (suc n) e = absurd (omega arith)
set_end (z ∷ l) x y zero e = absurd (omega arith)
set_end (z ∷ l) x y (suc n) e = ap (λ (t : List ℕ). z ∷ t) (set_end l x y n (omega arith))

get_end : (l : List ℕ) (x n : ℕ) → length l ≡ n → get_or (l ++ (x ∷ [])) n 0 ≡ x
get_end [] x zero e = refl
get_end [] x (suc n) e = absurd (omega arith)
get_end (z ∷ l) x zero e = absurd (omega arith)
get_end (z ∷ l) x (suc n) e = get_end l x n (omega arith)

-- ---- a column among a node's words

-- what stands before a column and after it, whatever is in the column
record Around (c : Column) (f : Fields) : Type 0 where
  before : List ℕ
  after : List ℕ
  long : length before ≡ start_of c
  now : field_words f ≡ before ++ (pad (room_of c) (column c f) ++ after)
  with : (xs : List ℕ) → field_words (with_column c xs f) ≡ before ++ (pad (room_of c) xs ++ after)

around : (c : Column) (f : Fields) → Fits f → Around c f
unfolding field_words frame
around key_column f s = record {
  before = f.state ∷ f.count ∷ f.parent ∷ f.place ∷ [];
  after = pad most f.vals ++ (pad (most + 1) f.edges ++ (f.total ∷ []));
  long = refl;
  now = refl;
  with = λ xs. refl;
}
around val_column f s = record {
  before = f.state ∷ f.count ∷ f.parent ∷ f.place ∷ pad most f.keys;
  after = pad (most + 1) f.edges ++ (f.total ∷ []);
  long = omega (arith, pad_length most f.keys (s key_column));
  now = refl;
  with = λ xs. refl;
}
around edge_column f s = record {
  before = f.state ∷ f.count ∷ f.parent ∷ f.place ∷ (pad most f.keys ++ pad most f.vals);
  after = f.total ∷ [];
  long = omega (arith, length-append (pad most f.keys) (pad most f.vals), pad_length most f.keys (s key_column), pad_length most f.vals (s val_column));
  now = simp append_assoc;
  with = λ xs. simp append_assoc;
}

-- where a column ends, the node's words go on or end
pub room_in : (c : Column) → start_of c + room_of c ≤ node_size
room_in key_column = omega arith
room_in val_column = omega arith
room_in edge_column = omega arith

fields_length : (f : Fields) → Fits f → length (field_words f) ≡ node_size
unfolding field_words frame
fields_length f s =
    let k = pad_length most f.keys (s key_column) in
    let v = pad_length most f.vals (s val_column) in
    let e = pad_length (most + 1) f.edges (s edge_column) in
    simp length-append (omega arith)

module _ (c : Column) (f : Fields) (s : Fits f) (k m : ℕ) (inside : k + m ≤ room_of c) where
  column_part : part (field_words f) (start_of c + k) m ≡ part (pad (room_of c) (column c f)) k m
  column_part =
      let r = around c f s in
      ap (λ (t : List ℕ). part t (start_of c + k) m) r.now
      ∙ part_right r.before (pad (room_of c) (column c f) ++ r.after) (start_of c) k m r.long
      ∙ part_left (pad (room_of c) (column c f)) r.after k m (omega (arith, pad_length (room_of c) (column c f) (s c)))

  column_splice : (q xs : List ℕ) → splice (pad (room_of c) (column c f)) k m q ≡ pad (room_of c) xs → splice (field_words f) (start_of c + k) m q ≡ field_words (with_column c xs f)
  column_splice q xs e =
      let r = around c f s in
      ap (λ (t : List ℕ). splice t (start_of c + k) m q) r.now
      ∙ splice_right r.before (pad (room_of c) (column c f) ++ r.after) (start_of c) k m q r.long
      ∙ ap (λ (t : List ℕ). r.before ++ t) (splice_left (pad (room_of c) (column c f)) r.after k m q (omega (arith, pad_length (room_of c) (column c f) (s c))) ∙ ap (λ (t : List ℕ). t ++ r.after) e)
      ∙ sym (r.with xs)

numbered_fits : (st n up at : ℕ) (f : Fields) → Fits f → Fits (numbered st n up at f)
numbered_fits st n up at f s key_column = s key_column
numbered_fits st n up at f s val_column = s val_column
numbered_fits st n up at f s edge_column = s edge_column

totalled_fits : (x : ℕ) (f : Fields) → Fits f → Fits (totalled x f)
totalled_fits x f s key_column = s key_column
totalled_fits x f s val_column = s val_column
totalled_fits x f s edge_column = s edge_column

-- what stands before the last word
ahead : Fields → List ℕ
ahead f = f.state ∷ f.count ∷ f.parent ∷ f.place ∷ (pad most f.keys ++ (pad most f.vals ++ pad (most + 1) f.edges))

ahead_length : (f : Fields) → Fits f → length (ahead f) ≡ total_word
unfolding ahead
ahead_length f s =
    let k = pad_length most f.keys (s key_column) in
    let v = pad_length most f.vals (s val_column) in
    let e = pad_length (most + 1) f.edges (s edge_column) in
    simp length-append (omega arith)

field_last : (f : Fields) → field_words f ≡ ahead f ++ (f.total ∷ [])
unfolding field_words frame ahead
field_last f = simp append_assoc

last_set : (x : ℕ) (f : Fields) → Fits f → set (field_words f) total_word x ≡ field_words (totalled x f)
unfolding ahead
last_set x f s = ap (λ (l : List ℕ). set l total_word x) (field_last f) ∙ set_end (ahead f) f.total x total_word (ahead_length f s) ∙ sym (field_last (totalled x f))

pub last_get : (f : Fields) → Fits f → get_or (field_words f) total_word 0 ≡ f.total
last_get f s = ap (λ (l : List ℕ). get_or l total_word 0) (field_last f) ∙ get_end (ahead f) f.total total_word (ahead_length f s)

-- ---- a node among the words of the arena

AllFit : List Fields → Type 0
AllFit fs = (n : ℕ) → n < length fs → Fits (row fs n)

rows_part : (fs : List Fields) (n k m : ℕ) → AllFit fs → n < length fs → k + m ≤ node_size → part (rows fs) (node_size * n + k) m ≡ part (field_words (row fs n)) k m
unfolding AllFit
rows_part [] n k m s h i = absurd (not-suc-le-zero h)
rows_part (f ∷ fs) zero k m s h i =
    let l = fields_length f (s 0 (omega arith)) in
    let e : node_size * 0 + k ≡ k = omega arith in
    rw e (part_left (field_words f) (rows fs) k m (omega arith))
rows_part (f ∷ fs) (suc n) k m s h i =
    let e : node_size * suc n + k ≡ node_size + (node_size * n + k) = omega arith in
    rw e (part_right (field_words f) (rows fs) node_size (node_size * n + k) m (fields_length f (s 0 (omega arith))) ∙ rows_part fs n k m (λ j g. s (suc j) (omega arith)) (omega arith) i)

rows_splice : (fs : List Fields) (n k m : ℕ) (q : List ℕ) (g : Fields) → AllFit fs → n < length fs → k + m ≤ node_size → splice (field_words (row fs n)) k m q ≡ field_words g → splice (rows fs) (node_size * n + k) m q ≡ rows (set fs n g)
unfolding AllFit
rows_splice [] n k m q g s h i d = absurd (not-suc-le-zero h)
rows_splice (f ∷ fs) zero k m q g s h i d =
    let l = fields_length f (s 0 (omega arith)) in
    let e : node_size * 0 + k ≡ k = omega arith in
    rw e (splice_left (field_words f) (rows fs) k m q (omega arith) ∙ ap (λ (t : List ℕ). t ++ rows fs) d)
rows_splice (f ∷ fs) (suc n) k m q g s h i d =
    let e : node_size * suc n + k ≡ node_size + (node_size * n + k) = omega arith in
    rw e (
    splice_right (field_words f) (rows fs) node_size (node_size * n + k) m q (fields_length f (s 0 (omega arith)))
    ∙ ap (λ (t : List ℕ). field_words f ++ t) (rows_splice fs n k m q g (λ j z. s (suc j) (omega arith)) (omega arith) i d)
    )

rows_length : (fs : List Fields) → AllFit fs → length (rows fs) ≡ node_size * length fs
unfolding AllFit
rows_length [] s = refl
rows_length (f ∷ fs) s =
    length-append (field_words f) (rows fs)
    ∙ omega (arith, fields_length f (s 0 (omega arith)), rows_length fs (λ j g. s (suc j) (omega arith)))

module _ {w h : List ℕ} {fs : List Fields} (a : Stored w h fs) where
  pub stored_length : length w ≡ base (length fs)
  unfolding AllFit
  stored_length = ap length a.words ∙ length-append h (rows fs) ∙ omega (arith, a.header_long, rows_length fs a.fits)

  node_part : (n k m : ℕ) → n < length fs → k + m ≤ node_size → part w (base n + k) m ≡ part (field_words (row fs n)) k m
  unfolding AllFit
  node_part n k m o i =
      let e : base n + k ≡ header_size + (node_size * n + k) = omega arith in
      ap (λ (t : List ℕ). part t (base n + k) m) a.words
      ∙ rw e (part_right h (rows fs) header_size (node_size * n + k) m a.header_long ∙ rows_part fs n k m a.fits o i)

  node_splice : (n k m : ℕ) (q : List ℕ) (g : Fields) → n < length fs → k + m ≤ node_size → Fits g → splice (field_words (row fs n)) k m q ≡ field_words g → Stored (splice w (base n + k) m q) h (set fs n g)
  unfolding AllFit
  node_splice n k m q g o i s d = record {
    header_long = a.header_long;
    fits = λ j z. fits_set j (rw length-set at z) (ℕ_discrete j n);
    words =
        let e : base n + k ≡ header_size + (node_size * n + k) = omega arith in
        ap (λ (t : List ℕ). splice t (base n + k) m q) a.words
        ∙ rw e (splice_right h (rows fs) header_size (node_size * n + k) m q a.header_long ∙ ap (λ (t : List ℕ). h ++ t) (rows_splice fs n k m q g a.fits o i d));
  }
    where
      fits_set : (j : ℕ) → j < length fs → Dec (j ≡ n) → Fits (row (set fs n g) j)
      fits_set j z (yes e) = rw (e, get_or-set_same fs n g (fields_of blank) o) s
      fits_set j z (no b) = rw (get_or-set_other fs n j g (fields_of blank) b) (a.fits j z)

  -- a word of a node that stands alone
  pub node_word : (n k : ℕ) → n < length fs → k < node_size → get_or w (base n + k) 0 ≡ get_or (field_words (row fs n)) k 0
  node_word n k o i =
      let e : base n + k + 0 ≡ base n + k = omega arith in
      let p = ap (λ (t : List ℕ). get_or t 0 0) (node_part n k 1 o (omega arith)) in
      sym (word_part w (base n + k) 1 0 (lit< tt) ∙ ap (λ (t : ℕ). get_or w t 0) e) ∙ p ∙ word_part (field_words (row fs n)) k 1 0 (lit< tt) ∙ ap (λ (t : ℕ). get_or (field_words (row fs n)) t 0) (omega arith)

  node_set : (n k x : ℕ) (g : Fields) → n < length fs → k < node_size → Fits g → set (field_words (row fs n)) k x ≡ field_words g → Stored (set w (base n + k) x) h (set fs n g)
  node_set n k x g o i s d =
      rw (set_splice w (base n + k) x (omega (arith, stored_length))) (node_splice n k 1 (x ∷ []) g o (omega arith) s (sym (set_splice (field_words (row fs n)) k x (omega (arith, fields_length (row fs n) (a.fits n o)))) ∙ d))

  -- the four numbers of a node
  module _ (n : ℕ) (o : n < length fs) where
    abbrev f : Fields
    f = row fs n

    pub state_set : (x : ℕ) → Stored (set w (base n + state_word) x) h (set fs n (numbered x f.count f.parent f.place f))
    unfolding field_words frame
    state_set x = node_set n state_word x _ o (lit< tt) (numbered_fits _ _ _ _ f (a.fits n o)) refl

    pub count_set : (x : ℕ) → Stored (set w (base n + length_word) x) h (set fs n (numbered f.state x f.parent f.place f))
    unfolding field_words frame
    count_set x = node_set n length_word x _ o (lit< tt) (numbered_fits _ _ _ _ f (a.fits n o)) refl

    pub parent_set : (x : ℕ) → Stored (set w (base n + parent_word) x) h (set fs n (numbered f.state f.count x f.place f))
    unfolding field_words frame
    parent_set x = node_set n parent_word x _ o (lit< tt) (numbered_fits _ _ _ _ f (a.fits n o)) refl

    pub place_set : (x : ℕ) → Stored (set w (base n + place_word) x) h (set fs n (numbered f.state f.count f.parent x f))
    unfolding field_words frame
    place_set x = node_set n place_word x _ o (lit< tt) (numbered_fits _ _ _ _ f (a.fits n o)) refl

    -- the count of the pairs below is the last word
    pub total_set : (x : ℕ) → Stored (set w (base n + total_word) x) h (set fs n (totalled x f))
    unfolding field_words frame
    total_set x = node_set n total_word x _ o (lit< tt) (totalled_fits x f (a.fits n o)) (last_set x f (a.fits n o))

  -- a part of a column, and words laid over it
  pub stored_part : (c : Column) (n k m : ℕ) → n < length fs → k + m ≤ room_of c → part w (base n + (start_of c + k)) m ≡ part (pad (room_of c) (column c (row fs n))) k m
  stored_part c n k m o i = node_part n (start_of c + k) m o (omega (arith, room_in c)) ∙ column_part c (row fs n) (a.fits n o) k m i

  pub stored_splice : (c : Column) (n k m : ℕ) (q xs : List ℕ) → n < length fs → k + m ≤ room_of c → length xs ≤ room_of c → splice (pad (room_of c) (column c (row fs n))) k m q ≡ pad (room_of c) xs → Stored (splice w (base n + (start_of c + k)) m q) h (set fs n (with_column c xs (row fs n)))
  stored_splice c n k m q xs o i l e =
      node_splice n (start_of c + k) m q (with_column c xs (row fs n)) o (omega (arith, room_in c)) (with_fits c xs (row fs n) (a.fits n o) l) (column_splice c (row fs n) (a.fits n o) k m i q xs e)
    where
      with_fits : (c : Column) (xs : List ℕ) (f : Fields) → Fits f → length xs ≤ room_of c → Fits (with_column c xs f)
      with_fits key_column xs f s l key_column = l
      with_fits key_column xs f s l val_column = s val_column
      with_fits key_column xs f s l edge_column = s edge_column
      with_fits val_column xs f s l key_column = s key_column
      with_fits val_column xs f s l val_column = l
      with_fits val_column xs f s l edge_column = s edge_column
      with_fits edge_column xs f s l key_column = s key_column
      with_fits edge_column xs f s l val_column = s val_column
      with_fits edge_column xs f s l edge_column = l

  -- a word of a column
  pub stored_word : (c : Column) (n i : ℕ) → n < length fs → i < length (column c (row fs n)) → get_or w (base n + (start_of c + i)) 0 ≡ get_or (column c (row fs n)) i 0
  stored_word c n i o l =
      let s = a.fits n o c in
      let p = stored_part c n i 1 o (omega arith) in
      let e : base n + (start_of c + i) + 0 ≡ base n + (start_of c + i) = omega arith in
      sym (word_part w (base n + (start_of c + i)) 1 0 (lit< tt) ∙ ap (λ (t : ℕ). get_or w t 0) e)
      ∙ ap (λ (t : List ℕ). get_or t 0 0) p
      ∙ word_part (pad (room_of c) (column c (row fs n))) i 1 0 (lit< tt)
      ∙ ap (λ (t : ℕ). get_or (pad (room_of c) (column c (row fs n))) t 0) (omega arith)
      ∙ pad_word (room_of c) (column c (row fs n)) i l

-- ---- a word of the header
module _ {w h : List ℕ} {fs : List Fields} (a : Stored w h fs) (k : ℕ) (o : k < header_size) where
  pub head_word : get_or w k 0 ≡ get_or h k 0
  head_word = ap (λ (t : List ℕ). get_or t k 0) a.words ∙ get_or-append h (rows fs) 0 k (rw a.header_long o)

  pub head_set : (x : ℕ) → Stored (set w k x) (set h k x) fs
  head_set x = record {
    header_long = length-set h k x ∙ a.header_long;
    fits = a.fits;
    words = ap (λ (t : List ℕ). set t k x) a.words ∙ set-append_left h (rows fs) k x (rw a.header_long o);
  }

-- ---- what nodes hold, as fields

rows_cells : (ns : List NodeVal) → rows (map fields_of ns) ≡ cells ns
unfolding node_words_by field_words
rows_cells [] = refl
rows_cells (v ∷ ns) = ap (λ (t : List ℕ). node_words v ++ t) (rows_cells ns)

pub row_fields : (ns : List NodeVal) (n : ℕ) → row (map fields_of ns) n ≡ fields_of (nth ns n)
row_fields [] n = refl
row_fields (v ∷ ns) zero = refl
row_fields (v ∷ ns) (suc n) = row_fields ns n

pub set_fields : (ns : List NodeVal) (n : ℕ) (v : NodeVal) → set (map fields_of ns) n (fields_of v) ≡ map fields_of (set ns n v)
set_fields [] n v = refl
set_fields (u ∷ ns) zero v = refl
set_fields (u ∷ ns) (suc n) v = ap (λ (t : List Fields). fields_of u ∷ t) (set_fields ns n v)

pub small_fits : (v : NodeVal) → Small v → Fits (fields_of v)
small_fits v s key_column = rw length-map s.pairs_fit
small_fits v s val_column = rw length-map s.pairs_fit
small_fits v s edge_column = s.edges_fit

pub stored : {w h : List ℕ} {ns : List NodeVal} → Arena w h ns → Stored w h (map fields_of ns)
unfolding arena_by
stored {w} {h} {ns} a = record {
  header_long = a.header_long;
  fits = λ n o. rw row_fields (small_fits (nth ns n) (a.small n (rw length-map at o)));
  words = a.words ∙ ap (λ (t : List ℕ). h ++ t) (sym (rows_cells ns));
}

pub unstored : {w h : List ℕ} {ns : List NodeVal} → Stored w h (map fields_of ns) → Arena w h ns
unfolding arena_by
unstored {w} {h} {ns} a = record {
  header_long = a.header_long;
  small = λ n o.
      let f = rw row_fields at (a.fits n (rw length-map o)) in
      record { pairs_fit = rw length-map at (f key_column); edges_fit = f edge_column };
  words = a.words ∙ ap (λ (t : List ℕ). h ++ t) (rows_cells ns);
}

-- ---- one node changed, step by step

module _ {w h : List ℕ} (ns : List NodeVal) (n : ℕ) (o : n < length ns) where
  -- a first change of the node's fields, another, and the last one, which makes them those of v
  pub first : (g : Fields → Fields) → Stored w h (set (map fields_of ns) n (g (row (map fields_of ns) n))) → Stored w h (set (map fields_of ns) n (g (fields_of (nth ns n))))
  first g a = rw row_fields at a

  pub again : (g : Fields → Fields) (f : Fields) → Stored w h (set (set (map fields_of ns) n f) n (g (row (set (map fields_of ns) n f) n))) → Stored w h (set (map fields_of ns) n (g f))
  again g f a = rw (get_or-set_same (map fields_of ns) n f (fields_of blank) (rw length-map o), set-set (map fields_of ns) n f (g f)) at a

  pub done : (f : Fields) (v : NodeVal) → f ≡ fields_of v → Stored w h (set (map fields_of ns) n f) → Arena w h (set ns n v)
  done f v e a = unstored (rw (e, set_fields) at a)
