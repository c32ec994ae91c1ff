-- Rank, count and the pair at a rank on a plain rising list: how they fit together, and how a list that is parted tells them.
-- Assumes nothing.
use Prim.Native.Nat.{ℕ, zero, suc, ◌-◌, ◌≤◌, ◌<◌}
use native.Mathlib.Omega.{arith}
use mathlib.Core.Path.{◌≡◌, refl, sym, ap, ap₂, ◌∙◌, subst}
use mathlib.Core.Bool.{Bool, true, false, not}
use mathlib.Core.List.{List, [], ◌∷◌, ◌++◌}
use mathlib.Core.Option.{Option, some, none}
use lib.Dec.{eqb, ltb, leb}
use lib.ListN.{length, take}
use borrow.Author.Tests.{ltb-true, ltb-false, lt-ltb, le-ltb, leb-true, leb-false, le-leb, lt-leb, eqb-true}
use Rattle.model.specs.declared.Range.{Range}
use Rattle.model.specs.declared.SearchBound.{SearchBound}
use Rattle.model.specs.declared.SearchBound.TheVariants.{Included, Excluded, AllIncluded, AllExcluded}
use Rattle.model.specs.Lists.{All}
use Rattle.model.specs.Tree.{Pair}
use Rattle.model.specs.Range.{from_start, to_end, beyond}
use Rattle.model.specs.Map.{Above, Rising, look, range, rank, count_of, nth}
use Rattle.model.specs.State.{State, list, listing}

-- ---- the three together

rank_none : (k : ℕ) (ps : List Pair) → Above k ps → rank k ps ≡ 0
rank_none k [] a = refl
rank_none k (p ∷ ps) a = rw (le-ltb p.key k (omega (arith, a.0))) (rank_none k ps a.1)

-- past the pairs there is none; before that there is one
pub nth_past : (i : ℕ) (ps : List Pair) → length ps ≤ i → nth i ps ≡ none
nth_past i [] l = refl
nth_past zero (p ∷ ps) l = absurd (omega arith)
nth_past (suc i) (p ∷ ps) l = nth_past i ps (omega arith)

pub nth_some : (i : ℕ) (ps : List Pair) → i < length ps → (p : Pair) × (nth i ps ≡ some p)
nth_some i [] l = absurd (omega arith)
nth_some zero (p ∷ ps) l = (p, refl)
nth_some (suc i) (p ∷ ps) l = nth_some i ps (omega arith)

-- a pair is none, or one and the same
code : {A : Type 0} → Option A → ℕ
code none = 0
code (some a) = 1

none_some : {A : Type 0} {a : A} → none ≡ some a → ⊥
unfolding code
none_some e = let z : ◌≡◌ {A = ℕ} 0 1 = ap code e in omega arith

some_same : {A : Type 0} {a b : A} → some a ≡ some b → a ≡ b
some_same {A} {a} e = ap or_else e
  where
    or_else : Option A → A
    or_else none = a
    or_else (some c) = c

nth_above : (k i : ℕ) (ps : List Pair) (p : Pair) → Above k ps → nth i ps ≡ some p → k < p.key
nth_above k i [] p a e = absurd (none_some e)
nth_above k zero (q ∷ ps) p a e = subst (λ (r : Pair). k < r.key) (some_same e) a.0
nth_above k (suc i) (q ∷ ps) p a e = nth_above k i ps p a.1 e

-- the rank of the key at rank i is i
pub rank_nth : (i : ℕ) (ps : List Pair) (p : Pair) → Rising ps → nth i ps ≡ some p → rank p.key ps ≡ i
rank_nth i [] p r e = absurd (none_some e)
rank_nth zero (q ∷ ps) p r e = subst (λ (x : Pair). rank x.key (q ∷ ps) ≡ 0) (some_same e) (rw (le-ltb q.key q.key (omega arith)) (rank_none q.key ps r.0))
rank_nth (suc i) (q ∷ ps) p r e = rw (lt-ltb q.key p.key (nth_above q.key i ps p r.0 e)) (ap suc (rank_nth i ps p r.1 e))

look_above : (k v : ℕ) (ps : List Pair) (j : ℕ) → Above j ps → look k ps ≡ some v → j < k
look_above k v [] j a e = absurd (none_some e)
look_above k v (p ∷ ps) j a e = go (eqb k p.key) refl (look_above k v ps j a.1)
  where
    go : (b : Bool) → eqb k p.key ≡ b → (look k ps ≡ some v → j < k) → j < k
    go true q f = omega (arith, a.0, eqb-true k p.key q)
    go false q f = f (rw (q, look) at e)

-- the pair at the rank of a key that is there is that key's
pub nth_rank : (k v : ℕ) (ps : List Pair) → Rising ps → look k ps ≡ some v → nth (rank k ps) ps ≡ some (record { key = k; val = v })
nth_rank k v [] r e = absurd (none_some e)
nth_rank k v (p ∷ ps) r e = go (eqb k p.key) refl (nth_rank k v ps r.1) (look_above k v ps p.key r.0)
  where
    go : (b : Bool) → eqb k p.key ≡ b → (look k ps ≡ some v → nth (rank k ps) ps ≡ some (record { key = k; val = v })) → (look k ps ≡ some v → p.key < k) → nth (rank k (p ∷ ps)) (p ∷ ps) ≡ some (record { key = k; val = v })
    go true q f g =
        let z : k ≡ p.key = eqb-true k p.key q in
        let s : p.val ≡ v = some_same (rw (q, look) at e) in
        let u : rank k (p ∷ ps) ≡ 0 = rw (le-ltb p.key k (omega arith)) (rank_none k ps (subst (λ (j : ℕ). Above j ps) (sym z) r.0)) in
        ap (λ (i : ℕ). nth i (p ∷ ps)) u ∙ ap₂ (λ (a b : ℕ). some (record { key = a; val = b })) (sym z) s
    go false q f g =
        let m : look k ps ≡ some v = rw (q, look) at e in
        rw (lt-ltb p.key k (g m)) (f m)

-- a count is the length of the listing, where that has room for all
take_all : (ps : List Pair) (n : ℕ) → length ps ≤ n → take n ps ≡ ps
take_all [] zero l = refl
take_all [] (suc n) l = refl
take_all (p ∷ ps) zero l = absurd (omega arith)
take_all (p ∷ ps) (suc n) l = ap (λ (m : List Pair). p ∷ m) (take_all ps n (omega arith))

pub count_listing : (q : Range) (room : ℕ) (s : State) → count_of q (list s) ≤ room → count_of q (list s) ≡ length (listing q room s)
count_listing q room s l = ap length (sym (take_all (range q (list s)) room l))

-- ---- a list parted by a start bound: the first n it leaves, the others it takes

abbrev pub Split : SearchBound → ℕ → List Pair → Type 0
Split b zero ps = All (λ (p : Pair). from_start b p.key ≡ true) ps
Split b (suc n) [] = ⊥
Split b (suc n) (p ∷ ps) = (from_start b p.key ≡ false) × Split b n ps

pub split_parts : (b : SearchBound) (ls rs : List Pair) → All (λ (p : Pair). from_start b p.key ≡ false) ls → All (λ (p : Pair). from_start b p.key ≡ true) rs → Split b (length ls) (ls ++ rs)
split_parts b [] rs a c = c
split_parts b (p ∷ ls) rs a c = (a.0, split_parts b ls rs a.1 c)

-- the rank of a key
pub rank_split : (k n : ℕ) (ps : List Pair) → Split (Included k) n ps → rank k ps ≡ n
rank_split k zero [] a = refl
rank_split k zero (p ∷ ps) a = rw (le-ltb p.key k (leb-true k p.key a.0)) (rank_split k zero ps a.1)
rank_split k (suc n) [] a = absurd a
rank_split k (suc n) (p ∷ ps) a = rw (lt-ltb p.key k (leb-false k p.key a.0)) (ap suc (rank_split k n ps a.1))

not_leb : (a b : ℕ) → leb a b ≡ not (ltb b a)
not_leb a b = go (ltb b a) refl
  where
    go : (t : Bool) → ltb b a ≡ t → leb a b ≡ not t
    go true e = lt-leb a b (ltb-true b a e)
    go false e = le-leb a b (ltb-false b a e)

not_ltb : (a b : ℕ) → ltb a b ≡ not (leb b a)
not_ltb a b = go (leb b a) refl
  where
    go : (t : Bool) → leb b a ≡ t → ltb a b ≡ not t
    go true e = le-ltb a b (leb-true b a e)
    go false e = lt-ltb a b (leb-false b a e)

beyond_not : (b : SearchBound) (k : ℕ) → to_end b k ≡ not (from_start (beyond b) k)
beyond_not (Included j) k = not_leb k j
beyond_not (Excluded j) k = not_ltb k j
beyond_not AllIncluded k = refl
beyond_not AllExcluded k = refl

-- a count: what the end admits less what the start leaves
pub count_split : (q : Range) (n m : ℕ) (ps : List Pair) → Split q.start n ps → Split (beyond q.end) m ps → count_of q ps ≡ m - n
count_split q zero zero [] a b = omega arith
count_split q zero (suc m) [] a b = absurd b
count_split q (suc n) m [] a b = absurd a
count_split q zero zero (p ∷ ps) a b = rw (a.0, beyond_not q.end p.key, b.0, range) (count_split q zero zero ps a.1 b.1)
count_split q zero (suc m) (p ∷ ps) a b = rw (a.0, beyond_not q.end p.key, b.0, range) (omega (arith, count_split q zero m ps a.1 b.1))
count_split q (suc n) zero (p ∷ ps) a b = rw (a.0, range) (omega (arith, count_split q n zero ps a.1 b.1))
count_split q (suc n) (suc m) (p ∷ ps) a b = rw (a.0, range) (omega (arith, count_split q n m ps a.1 b.1))
