-- A key that a node's words still show at a place: the search of that key ends there.
-- Assumes nothing.
use Prim.Native.Nat.{ℕ, zero, suc, ◌+◌, ◌≤◌, ◌<◌}
use native.Mathlib.Nat.{not-suc-le-zero, le_of_suc-le-suc}
use native.Mathlib.Decide.{dec_lt}
use native.Mathlib.Omega.{arith}
use mathlib.Core.Bool.{Bool, true, false}
use mathlib.Core.Logic.{◌⊎◌, inl, inr, ⊎_elim}
use mathlib.Core.Path.{◌≡◌, refl, sym, ap, ◌∙◌, subst}
use mathlib.Core.List.{List, [], ◌∷◌, ◌++◌, map}
use lib.Dec.{eqb}
use lib.ListN.{length, get_or, length-map}
use borrow.Author.Tests.{le-leb, lt-leb, lt-ltb, eq-eqb, ne_eqb, eqb-true, eqb-false}
use Rattle.model.specs.Lists.{All, times}
use Rattle.model.specs.Layout.{most, base, node_size, keys_word, length_word, word_at, key_of}
use Rattle.model.specs.Tree.{Pair, Item, Tree, Ctx, top, under, flat, flats, has, has_in}
use Rattle.model.specs.Map.{Rising}
use Rattle.model.specs.Search.{scan, reaches, found_or, seek, search}
use Rattle.model.specs.Range.{kv, key_index, keys_of, open_at}
use Rattle.model.specs.State.{State}
use Rattle.model.specs.Words.{pairs, Block, blocks_of, blocks, chain_blocks, blocks_in}
use Rattle.model.specs.Promise.{Holds}
use Rattle.model.proofs.Lists.{all_left, all_right, all_map, one_other}
use Rattle.model.proofs.Rising.{rising_left, rising_right, rising_below}
use Rattle.model.proofs.Places.{pad_tab}
use Rattle.model.proofs.Read.{Reads}
use Rattle.model.proofs.Held.{words_read, words_long}
use Rattle.model.proofs.Forks.{Ascends, node_ascends, seek_kv}
use Rattle.search.specs.declared.SearchResult.TheVariants.{Found}
use Rattle.search.specs.Results.{handle, spotted}

-- ---- a key among pairs

abbrev Among : ℕ → List Pair → Type 0
Among k [] = ⊥
Among k (p ∷ ps) = (p.key ≡ k) ⊎ Among k ps

among_left : (k : ℕ) (a b : List Pair) → Among k a → Among k (a ++ b)
among_left k [] b m = absurd m
among_left k (p ∷ a) b m = ⊎_elim (λ e. inl e) (λ u. inr (among_left k a b u)) m

among_right : (k : ℕ) (a b : List Pair) → Among k b → Among k (a ++ b)
among_right k [] b m = m
among_right k (p ∷ a) b m = inr (among_right k a b m)

among_all : (P : ℕ → Type 0) (k : ℕ) (a : List Pair) → All (λ (p : Pair). P p.key) a → Among k a → P k
among_all P k [] h m = absurd m
among_all P k (p ∷ a) h m = ⊎_elim (λ e. subst P e h.0) (λ u. among_all P k a h.1 u) m

among_keys : {A : Type 0} (f : A → List Pair) (k i : ℕ) (r : List (Item A)) → i < length (keys_of r) → get_or (keys_of r) i 0 ≡ k → Among k (flats f r)
among_keys f k i [] l e = absurd (not-suc-le-zero l)
among_keys f k zero (x ∷ r) l e = inl e
among_keys f k (suc i) (x ∷ r) l e = inr (among_right k (f x.edge) (flats f r) (among_keys f k i r (le_of_suc-le-suc l) e))

-- ---- its index in a node

keys_pairs : {A : Type 0} (r : List (Item A)) → map key_of (pairs r) ≡ keys_of r
keys_pairs [] = refl
keys_pairs (x ∷ r) = ap (λ (l : List ℕ). x.pair.key ∷ l) (keys_pairs r)

all_get : (P : ℕ → Type 0) (ks : List ℕ) → All P ks → (j : ℕ) → j < length ks → P (get_or ks j 0)
all_get P [] a j l = absurd (not-suc-le-zero l)
all_get P (k ∷ ks) a zero l = a.0
all_get P (k ∷ ks) a (suc j) l = all_get P ks a.1 j (le_of_suc-le-suc l)

index_at : (k j i : ℕ) (ks : List ℕ) → Ascends ks → i < length ks → get_or ks i 0 ≡ k → key_index k j ks ≡ kv (j + i)
index_at k j i [] a l e = absurd (not-suc-le-zero l)
index_at k j zero (x ∷ ks) a l e = rw (le-leb k x (omega arith), eq-eqb k x (sym e), key_index) (ap kv (let z : j ≡ j + 0 = omega arith in z))
index_at k j (suc i) (x ∷ ks) a l e =
    let u : x < get_or ks i 0 = all_get (λ (y : ℕ). x < y) ks a.0 i (le_of_suc-le-suc l) in
    rw (lt-leb k x (omega arith), key_index) (index_at k (suc j) i ks a.1 (le_of_suc-le-suc l) e ∙ ap kv (let z : suc j + i ≡ j + suc i = omega arith in z))

-- ---- the node n of a tree, which has the key k at i

module _ (k n i : ℕ) where
  abbrev Shows : Block → Type 0
  Shows b = b.no ≡ n → (i < length b.val.pairs) × (get_or (map key_of b.val.pairs) i 0 ≡ k)

  pub record Reached (h : ℕ) (t : Tree h) : Type 0 where
    pub among : Among k (flat h t)
    pub spot : (c : Ctx h) → (g : ℕ) × (Found (handle n g i) ≡ spotted (seek k h c t))

  here : (h : ℕ) (t : Tree (suc h)) → Rising (flat (suc h) t) → t.no ≡ n → (i < length (pairs t.rest)) × (get_or (map key_of (pairs t.rest)) i 0 ≡ k) → Reached (suc h) t
  here h t r e s =
      let l : i < length (keys_of t.rest) = simp length-map (simp length-map at s.0) in
      let g : get_or (keys_of t.rest) i 0 ≡ k = rw (keys_pairs t.rest) at s.1 in
      let x : key_index k 0 (keys_of t.rest) ≡ kv i = index_at k 0 i (keys_of t.rest) (node_ascends {h = h} top t r) l g ∙ ap kv (let z : 0 + i ≡ i = omega arith in z) in
      record {
        among = among_right k (flat h t.first) (flats (flat h) t.rest) (among_keys (flat h) k i t.rest l g);
        spot = λ c. let z = seek_kv k c t i x in (h, sym (ap spotted z.2 ∙ (ap (λ (m : ℕ). Found (handle m h (length (open_at i [] t.first t.rest).left))) e ∙ ap (λ (j : ℕ). Found (handle n h j)) z.3)));
      }

  module _ {h : ℕ} (ih : (t : Tree h) (p j : ℕ) → Rising (flat h t) → All Shows (blocks h p j t) → 1 ≤ has n h t → Reached h t) (p : ℕ) where
    through : (j : ℕ) (e : Tree h) (r : List (Item (Tree h))) → Rising (flat h e ++ flats (flat h) r) → All Shows (blocks h p j e) → All Shows (blocks_of (blocks h p) (suc j) r) → 1 ≤ has n h e + has_in (has n h) r
        → Among k (flat h e ++ flats (flat h) r) × ((c : Ctx (suc h)) (m : ℕ) (l : List (Item (Tree h))) → (g : ℕ) × (Found (handle n g i) ≡ spotted (scan (reaches k) (found_or k (seek k h)) (seek k h) c m l e r)))
    through j e [] o a b u =
        let q = ih e p j (rising_left (flat h e) [] o) a (omega arith) in
        (among_left k (flat h e) [] q.among, λ c m l. q.spot (under (record { no = m; left = l; right = [] }) c))
    through j e (x ∷ r) o a b u =
        let s = rising_right (flat h e) (flats (flat h) (x ∷ r)) o in
        go (dec_lt 0 (has n h e)) s (through (suc j) x.edge r s.1 (all_left Shows (blocks h p (suc j) x.edge) (blocks_of (blocks h p) (suc (suc j)) r) b) (all_right Shows (blocks h p (suc j) x.edge) (blocks_of (blocks h p) (suc (suc j)) r) b))
      where
        go : Dec (0 < has n h e) → Rising (flats (flat h) (x ∷ r))
            → (1 ≤ has n h x.edge + has_in (has n h) r → Among k (flat h x.edge ++ flats (flat h) r) × ((c : Ctx (suc h)) (m : ℕ) (l : List (Item (Tree h))) → (g : ℕ) × (Found (handle n g i) ≡ spotted (scan (reaches k) (found_or k (seek k h)) (seek k h) c m l x.edge r))))
            → Among k (flat h e ++ flats (flat h) (x ∷ r)) × ((c : Ctx (suc h)) (m : ℕ) (l : List (Item (Tree h))) → (g : ℕ) × (Found (handle n g i) ≡ spotted (scan (reaches k) (found_or k (seek k h)) (seek k h) c m l e (x ∷ r))))
        go (yes v) s rest =
            let q = ih e p j (rising_left (flat h e) (flats (flat h) (x ∷ r)) o) a v in
            let d : k < x.pair.key = among_all (λ (y : ℕ). y < x.pair.key) k (flat h e) (rising_below x.pair _ (flat h e) o) q.among in (
              among_left k (flat h e) (flats (flat h) (x ∷ r)) q.among,
              λ c m l. rw (le-leb k x.pair.key (omega arith), scan) (rw (ne_eqb k x.pair.key (λ z. omega arith), found_or) (q.spot (under (record { no = m; left = l; right = x ∷ r }) c))),
            )
        go (no v) s rest =
            let q = rest (omega arith) in
            let d : x.pair.key < k = among_all (λ (y : ℕ). x.pair.key < y) k (flat h x.edge ++ flats (flat h) r) s.0 q.0 in (
              among_right k (flat h e) (flats (flat h) (x ∷ r)) (inr q.0),
              λ c m l. rw (lt-leb k x.pair.key d, scan) (q.1 c m (record { pair = x.pair; edge = e } ∷ l)),
            )

  pub reached : (h : ℕ) (t : Tree h) (p j : ℕ) → Rising (flat h t) → All Shows (blocks h p j t) → 1 ≤ has n h t → Reached h t
  reached zero t p j o a u = absurd (omega arith)
  reached (suc h) t p j o a u = go (eqb t.no n) refl (through (reached h) t.no 0 t.first t.rest o (all_left Shows (blocks h t.no 0 t.first) (blocks_of (blocks h t.no) 1 t.rest) a.1) (all_right Shows (blocks h t.no 0 t.first) (blocks_of (blocks h t.no) 1 t.rest) a.1))
    where
      go : (b : Bool) → eqb t.no n ≡ b → (1 ≤ has n h t.first + has_in (has n h) t.rest → Among k (flat (suc h) t) × ((c : Ctx (suc h)) (m : ℕ) (l : List (Item (Tree h))) → (g : ℕ) × (Found (handle n g i) ≡ spotted (scan (reaches k) (found_or k (seek k h)) (seek k h) c m l t.first t.rest)))) → Reached (suc h) t
      go true e q = here h t o (eqb-true t.no n e) (a.0 (eqb-true t.no n e))
      go false e q = let z = q (omega (arith, one_other t.no n (eqb-false t.no n e))) in record { among = z.0; spot = λ c. z.1 c t.no [] }

  -- a free node has no keys
  no_free : (l : List ℕ) → All Shows (chain_blocks l) → 1 ≤ times n l → ⊥
  no_free [] a u = omega arith
  no_free (m ∷ l) a u = go (eqb m n) refl (no_free l a.1)
    where
      go : (b : Bool) → eqb m n ≡ b → (1 ≤ times n l → ⊥) → ⊥
      go true e rest = not-suc-le-zero (a.0 (eqb-true m n e)).0
      go false e rest = rest (omega (arith, one_other m n (eqb-false m n e)))

  -- in the words of a sound state
  pub shown : {w : List ℕ} {s : State} → Holds w s → n < s.size → i < word_at w n length_word → word_at w n (keys_word + i) ≡ k → (g : ℕ) × (Found (handle n g i) ≡ spotted (search k s.whole))
  shown {w} {s} o l u e =
      let a : All Shows (blocks_in s) = all_map _ Shows (λ (b : Block) (r : Reads w b.no b.val) (z : b.no ≡ n). by b (subst (λ (m : ℕ). Reads w m b.val) z r)) (blocks_in s) (rw o.words (words_read o.sound)) in
      let c = o.sound.once n in
      let d = rw (lt-ltb n s.size l) at c in
      go a (dec_lt 0 (has n s.whole.height s.whole.root)) d
    where
      by : (b : Block) → Reads w n b.val → (i < length b.val.pairs) × (get_or (map key_of b.val.pairs) i 0 ≡ k)
      by b r =
          let f : i < length b.val.pairs = omega (arith, r.length_is) in
          let m : i < most = omega (arith, r.small.pairs_fit) in
          (f, sym (pad_tab (λ j. word_at w n (keys_word + j)) most (map key_of b.val.pairs) r.keys_are i m) ∙ e)

      go : All Shows (blocks_in s) → Dec (0 < has n s.whole.height s.whole.root) → has n s.whole.height s.whole.root + times n s.free ≡ 1 → (g : ℕ) × (Found (handle n g i) ≡ spotted (search k s.whole))
      go a (yes v) d = (reached s.whole.height s.whole.root _ 0 o.sound.rising (all_left Shows (blocks s.whole.height _ 0 s.whole.root) (chain_blocks s.free) a) v).spot top
      go a (no v) d = absurd (no_free s.free (all_right Shows (blocks s.whole.height _ 0 s.whole.root) (chain_blocks s.free) a) (omega arith))

-- the node that lies within the words
pub node_below : {w : List ℕ} {s : State} → Holds w s → (n : ℕ) → base n + node_size ≤ length w → n < s.size
node_below o n l = omega (arith, ap length o.words, words_long o.sound, l)
