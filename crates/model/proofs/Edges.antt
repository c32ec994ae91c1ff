-- The law of the fork: on the way down each bound says of the keys that belong there what the range's bound says.
-- Assumes nothing.
use Prim.Native.Nat.{ℕ, zero, suc, ◌+◌, ◌-◌, ◌≤◌, ◌<◌}
use native.Mathlib.Nat.{le_of_suc-le-suc}
use native.Mathlib.Omega.{arith}
use mathlib.Core.Path.{◌≡◌, refl, ap, ◌∙◌, sym, subst}
use mathlib.Core.Logic.{⊎_elim}
use mathlib.Core.Bool.{Bool, true, false, cond, not, ◌&&◌}
use mathlib.Core.List.{List, [], ◌∷◌, ◌++◌, append_assoc, append-nil}
use mathlib.Core.Option.{some}
use lib.Dec.{leb, ltb, eqb}
use lib.ListN.{length, drop, length-map, length-drop}
use borrow.Author.Tests.{leb-true, leb-false, ltb-true, ltb-false, le-leb, lt-leb, lt-ltb, le-ltb}
use Rattle.model.specs.declared.SearchBound.{SearchBound}
use Rattle.model.specs.declared.SearchBound.TheVariants.{Included, Excluded, AllIncluded, AllExcluded}
use Rattle.model.specs.declared.Range.{Range}
use Rattle.model.specs.Lists.{All}
use Rattle.model.specs.Tree.{Pair, Item, Tree, Ctx, top, under, Whole, plug, fill, flat, flats, lefts, before, after, flat_of}
use Rattle.model.specs.Range.{from_start, to_end, IndexResult, kv, edge, key_index, BoundEdge, at_key, lower_edge, upper_edge, Opened, open_at, keys_of, fork}
use Rattle.model.specs.Map.{Rising, Below, Above, range, closed_at}
use Rattle.model.specs.Edges.{down_at, hole_at, inner, between_at, past_end, Belongs, Divides, PartsAt, Forks, ForkRight}
use Rattle.model.proofs.Lists.{all_append, all_left, all_right, all_map, all_both, below_or}
use Rattle.model.proofs.Rising.{rising_left, rising_right, rising_below, rising_above, rising_without}
use Rattle.model.proofs.Plug.{flat_plug}
use Rattle.model.proofs.Walks.{start_up}
use Rattle.model.proofs.Forks.{StopsAt, Larger, OverLeft, UnderRight, Ascends, EdgeOf, edge_of, keys_ascend, open_fill, down_plug, lower_inside, low_at, high_at, bounds_at, fork_here, fork_below}

-- ---- tests turned over

not_true : (x : Bool) → not x ≡ true → x ≡ false
not_true true e = let z : ◌≡◌ {A = ℕ} 0 1 = cc in absurd (omega arith)
not_true false e = refl

not_false : (x : Bool) → not x ≡ false → x ≡ true
not_false true e = refl
not_false false e = let z : ◌≡◌ {A = ℕ} 0 1 = cc in absurd (omega arith)

not_same : (x y : Bool) → not x ≡ not y → x ≡ y
not_same true true e = refl
not_same false false e = refl
not_same true false e = let z : ◌≡◌ {A = ℕ} 0 1 = cc in absurd (omega arith)
not_same false true e = let z : ◌≡◌ {A = ℕ} 0 1 = cc in absurd (omega arith)

-- ---- an end bound is the start bound of the keys past it, and its edge that bound's

abbrev mirror : SearchBound → SearchBound
mirror (Included k) = Excluded k
mirror (Excluded k) = Included k
mirror AllIncluded = AllExcluded
mirror AllExcluded = AllIncluded

mirror_twice : (b : SearchBound) → mirror (mirror b) ≡ b
mirror_twice (Included k) = refl
mirror_twice (Excluded k) = refl
mirror_twice AllIncluded = refl
mirror_twice AllExcluded = refl

mirror_closed : (b : SearchBound) → closed_at (mirror b) ≡ closed_at b
mirror_closed (Included k) = refl
mirror_closed (Excluded k) = refl
mirror_closed AllIncluded = refl
mirror_closed AllExcluded = refl

past_mirror : (b : SearchBound) (k : ℕ) → past_end b k ≡ from_start (mirror b) k
past_mirror (Included a) k = go (leb k a) refl
  where
    go : (v : Bool) → leb k a ≡ v → not (leb k a) ≡ ltb a k
    go true e = rw (e, le-ltb a k (leb-true k a e))
    go false e = rw (e, lt-ltb a k (leb-false k a e))
past_mirror (Excluded a) k = go (ltb k a) refl
  where
    go : (v : Bool) → ltb k a ≡ v → not (ltb k a) ≡ leb a k
    go true e = rw (e, lt-leb a k (ltb-true k a e))
    go false e = rw (e, le-leb a k (ltb-false k a e))
past_mirror AllIncluded k = refl
past_mirror AllExcluded k = refl

abbrev moved : ℕ → IndexResult → IndexResult
moved i (kv j) = kv (i + j)
moved i (edge j) = edge (i + j)

index_moved : (k i n : ℕ) (xs : List ℕ) → key_index k (i + n) xs ≡ moved i (key_index k n xs)
index_moved k i n [] = refl
index_moved k i n (x ∷ xs) = go (leb k x) refl (index_moved k i (suc n) xs)
  where
    go : (v : Bool) → leb k x ≡ v → key_index k (i + suc n) xs ≡ moved i (key_index k (suc n) xs) → key_index k (i + n) (x ∷ xs) ≡ moved i (key_index k n (x ∷ xs))
    go true e ih = rw (e, key_index) (found (eqb k x))
      where
        found : (v : Bool) → cond v (kv (i + n)) (edge (i + n)) ≡ moved i (cond v (kv n) (edge n))
        found true = refl
        found false = refl
    go false e ih = rw (e, key_index) (ap (λ (m : ℕ). key_index k m xs) (let z : suc (i + n) ≡ i + suc n = omega arith in z) ∙ ih)

module _ (i : ℕ) (ks : List ℕ) (inside : i ≤ length ks) where
  abbrev Mirrored : SearchBound → Type 0
  Mirrored b = upper_edge b i ks ≡ record { at = i + (lower_edge (mirror b) (drop i ks)).at; bound = mirror (lower_edge (mirror b) (drop i ks)).bound }

  index_from : (k : ℕ) → key_index k i (drop i ks) ≡ moved i (key_index k 0 (drop i ks))
  index_from k = ap (λ (m : ℕ). key_index k m (drop i ks)) (let z : i ≡ i + 0 = omega arith in z) ∙ index_moved k i 0 (drop i ks)

  upper_mirror : (b : SearchBound) → Mirrored b
  upper_mirror (Included k) = rw (index_from k, upper_edge) (go (key_index k 0 (drop i ks)))
    where
      go : (r : IndexResult) → at_key (λ j. record { at = suc j; bound = AllExcluded }) (Included k) (moved i r) ≡ record { at = i + (at_key (λ j. record { at = suc j; bound = AllIncluded }) (Excluded k) r).at; bound = mirror (at_key (λ j. record { at = suc j; bound = AllIncluded }) (Excluded k) r).bound }
      go (kv j) = ap (λ (m : ℕ). record { at = m; bound = AllExcluded }) (let z : suc (i + j) ≡ i + suc j = omega arith in z)
      go (edge j) = refl
  upper_mirror (Excluded k) = rw (index_from k, upper_edge) (go (key_index k 0 (drop i ks)))
    where
      go : (r : IndexResult) → at_key (λ j. record { at = j; bound = AllIncluded }) (Excluded k) (moved i r) ≡ record { at = i + (at_key (λ j. record { at = j; bound = AllExcluded }) (Included k) r).at; bound = mirror (at_key (λ j. record { at = j; bound = AllExcluded }) (Included k) r).bound }
      go (kv j) = refl
      go (edge j) = refl
  upper_mirror AllIncluded = ap (λ (m : ℕ). record { at = m; bound = AllIncluded }) (let z : length ks ≡ i + length (drop i ks) = omega (arith, length-drop i ks) in z)
  upper_mirror AllExcluded = ap (λ (m : ℕ). record { at = m; bound = AllExcluded }) (let z : i ≡ i + 0 = omega arith in z)

-- ---- the pair nearest to an edge: its key has P; where there is no pair, Q

abbrev Nearest : {A : Type 0} → Type 0 → (ℕ → Type 0) → List (Item A) → Type 0
Nearest Q P [] = Q
Nearest Q P (x ∷ l) = P x.pair.key

module _ {A : Type 0} (Q : Type 0) where
  near_left : (f : ℕ → Bool) (i : ℕ) (l : List (Item A)) (e : A) (r : List (Item A)) → StopsAt f i (keys_of r) → (i ≡ 0 → Nearest Q (λ k. f k ≡ false) l) → Nearest Q (λ k. f k ≡ false) (open_at i l e r).left
  near_left f i l e [] s g = g s
  near_left f zero l e (x ∷ r) s g = g refl
  near_left f (suc i) l e (x ∷ r) s g = near_left f i (record { pair = x.pair; edge = e } ∷ l) x.edge r s.1 (λ z. s.0)

  near_right : (f : ℕ → Bool) (i : ℕ) (l : List (Item A)) (e : A) (r : List (Item A)) → StopsAt f i (keys_of r) → Q → Nearest Q (λ k. f k ≡ true) (open_at i l e r).right
  near_right f i l e [] s q = q
  near_right f zero l e (x ∷ r) s q = s
  near_right f (suc i) l e (x ∷ r) s q = near_right f i (record { pair = x.pair; edge = e } ∷ l) x.edge r s.1 q

  near_larger : (k i : ℕ) (l : List (Item A)) (e : A) (r : List (Item A)) → Larger k (drop i (keys_of r)) → Q → Nearest Q (λ j. k < j) (open_at i l e r).right
  near_larger k i l e [] s q = q
  near_larger k zero l e (x ∷ r) s q = s
  near_larger k (suc i) l e (x ∷ r) s q = near_larger k i (record { pair = x.pair; edge = e } ∷ l) x.edge r s q

  near_map : (P P' : ℕ → Type 0) → ((k : ℕ) → P k → P' k) → (l : List (Item A)) → Nearest Q P l → Nearest Q P' l
  near_map P P' g [] q = q
  near_map P P' g (x ∷ l) q = g x.pair.key q

-- what holds of the nearest pair, and of all smaller keys with it, holds of all before the edge; and the mirror image
all_before : {h : ℕ} (c : Ctx (suc h)) (P : ℕ → Type 0) → ((j k : ℕ) → j < k → P k → P j) → (l : List (Item (Tree h))) → Rising (before c ++ lefts (flat h) l)
    → Nearest (All (λ (p : Pair). P p.key) (before c)) P l → All (λ (p : Pair). P p.key) (before c ++ lefts (flat h) l)
all_before c P down [] u q = rw append-nil q
all_before {h} c P down (y ∷ l) u q =
    let A = before c ++ (lefts (flat h) l ++ flat h y.edge) in
    let v : Rising (A ++ y.pair ∷ []) = simp append_assoc u in
    let z : All (λ (p : Pair). P p.key) (A ++ y.pair ∷ []) = all_append _ A (y.pair ∷ []) (all_map _ _ (λ (p : Pair) (w : p.key < y.pair.key). down p.key y.pair.key w q) A (rising_below y.pair [] A v)) (q, tt) in
    simp append_assoc at z

all_after : {h : ℕ} (c : Ctx (suc h)) (P : ℕ → Type 0) → ((j k : ℕ) → j < k → P j → P k) → (r : List (Item (Tree h))) → Rising (flats (flat h) r ++ after c)
    → Nearest (All (λ (p : Pair). P p.key) (after c)) P r → All (λ (p : Pair). P p.key) (flats (flat h) r ++ after c)
all_after c P up [] u q = q
all_after {h} c P up (x ∷ r) u q = (q, all_map _ _ (λ (p : Pair) (w : x.pair.key < p.key). up x.pair.key p.key w q) ((flat h x.edge ++ flats (flat h) r) ++ after c) u.0)

over_near : {h : ℕ} (c : Ctx (suc h)) (m : ℕ) (l : List (Item (Tree h))) → Below m (before c ++ lefts (flat h) l) → OverLeft l m
over_near c m [] b = tt
over_near {h} c m (y ∷ l) b =
    let z = all_right (λ (p : Pair). p.key < m) (before c) (lefts (flat h) l ++ (flat h y.edge ++ y.pair ∷ [])) b in
    (all_right (λ (p : Pair). p.key < m) (flat h y.edge) (y.pair ∷ []) (all_right (λ (p : Pair). p.key < m) (lefts (flat h) l) (flat h y.edge ++ y.pair ∷ []) z)).0

under_near : {h : ℕ} (c : Ctx (suc h)) (m : ℕ) (r : List (Item (Tree h))) → Above m (flats (flat h) r ++ after c) → UnderRight r m
under_near c m [] a = tt
under_near c m (x ∷ r) a = a.0

-- ---- where the keys rise, those in the middle belong there

middle_belongs : (a b c : List Pair) → Rising (a ++ (b ++ c)) → All (λ (p : Pair). Below p.key a × Above p.key c) b
middle_belongs a [] c u = tt
middle_belongs a (p ∷ b) c u = ((rising_below p (b ++ c) a u, all_right (λ (q : Pair). p.key < q.key) b c (rising_above p (b ++ c) a u)), middle_belongs a b c (rising_without p (b ++ c) a u))

flats_keys : {A : Type 0} (f : A → List Pair) (P : ℕ → Type 0) (r : List (Item A)) → All (λ (p : Pair). P p.key) (flats f r) → All P (keys_of r)
flats_keys f P [] a = tt
flats_keys f P (x ∷ r) a = (a.0, flats_keys f P r (all_right (λ (p : Pair). P p.key) (f x.edge) (flats f r) a.1))

stops_agree : (f g : ℕ → Bool) (i : ℕ) (ks : List ℕ) → All (λ (k : ℕ). f k ≡ g k) ks → StopsAt f i ks → StopsAt g i ks
stops_agree f g i [] a s = s
stops_agree f g zero (k ∷ ks) a s = sym a.0 ∙ s
stops_agree f g (suc i) (k ∷ ks) a s = (sym a.0 ∙ s.0, stops_agree f g i ks a.1 s.1)

-- ---- the way down

start_down : (b : SearchBound) (j k : ℕ) → j < k → from_start b k ≡ false → from_start b j ≡ false
start_down b j k l e = go (from_start b j) refl
  where
    go : (v : Bool) → from_start b j ≡ v → from_start b j ≡ false
    go false q = q
    go true q = let z : true ≡ false = sym (start_up b j k l q) ∙ e in q ∙ z

-- what the way c knows of the bound b' that it has handed down for b
record Carried (b b' : SearchBound) {h : ℕ} (c : Ctx h) : Type 0 where
  pub afters : All (λ (p : Pair). from_start b p.key ≡ true) (after c)
  pub same : (k : ℕ) → Belongs c k → from_start b' k ≡ from_start b k
  pub own : (k : ℕ) → closed_at b' ≡ some k → (b' ≡ b) × Above k (after c)

abbrev way_to : {h : ℕ} → Ctx (suc h) → ℕ → Opened (Tree h) → Ctx h
way_to c n o = under (record { no = n; left = o.left; right = o.right }) c

-- at a node that is open at some edge: from there on to the edge of b'
module _ {h : ℕ} (c : Ctx (suc h)) (n : ℕ) (l : List (Item (Tree h))) (e : Tree h) (r : List (Item (Tree h))) (u : Rising (flat_of (plug c (fill n l e r)))) where
  here : Rising ((before c ++ lefts (flat h) l) ++ (flat h e ++ (flats (flat h) r ++ after c)))
  here = subst Rising (flat_plug (under (record { no = n; left = l; right = r }) c) e) u

  ascends : Ascends (keys_of r)
  ascends = keys_ascend (flat h) r (rising_left (flats (flat h) r) (after c) (rising_right (flat h e) (flats (flat h) r ++ after c) (rising_right (before c ++ lefts (flat h) l) (flat h e ++ (flats (flat h) r ++ after c)) here)))

  keys_belong : All (Belongs c) (keys_of r)
  keys_belong =
      let m = lefts (flat h) l ++ flat h e in
      let v : Rising (before c ++ ((m ++ flats (flat h) r) ++ after c)) = simp append_assoc (simp append_assoc at here) in
      flats_keys (flat h) (Belongs c) r (all_right (λ (p : Pair). Belongs c p.key) m (flats (flat h) r) (middle_belongs (before c) (m ++ flats (flat h) r) (after c) v))

  module _ (b b' : SearchBound) (v : Carried b b' c) where
    abbrev next : BoundEdge
    next = lower_edge b' (keys_of r)

    abbrev opened : Opened (Tree h)
    opened = open_at next.at l e r

    edged : EdgeOf b' l e r next
    edged = edge_of b' l e r ascends

    there : Rising (before (way_to c n opened) ++ (flat h opened.hole ++ after (way_to c n opened)))
    there = subst Rising (flat_plug (way_to c n opened) opened.hole) (subst (λ (t : Tree (suc h)). Rising (flat_of (plug c t))) (sym (open_fill n next.at l e r)) u)

    rises_before : Rising (before (way_to c n opened))
    rises_before = rising_left (before (way_to c n opened)) (flat h opened.hole ++ after (way_to c n opened)) there

    rises_after : Rising (after (way_to c n opened))
    rises_after = rising_right (flat h opened.hole) (after (way_to c n opened)) (rising_right (before (way_to c n opened)) (flat h opened.hole ++ after (way_to c n opened)) there)

    stops : StopsAt (from_start b) next.at (keys_of r)
    stops = stops_agree (from_start b') (from_start b) next.at (keys_of r) (all_map _ _ (λ (k : ℕ) (w : Belongs c k). v.same k w) (keys_of r) keys_belong) edged.stops

    carried : Carried b next.bound (way_to c n opened)
    carried =
        record {
          afters = all_after c (λ k. from_start b k ≡ true) (start_up b) opened.right rises_after (near_right _ (from_start b) next.at l e r stops v.afters);
          same = λ k w.
              sym (edged.same k (over_near c k opened.left w.0) (under_near c k opened.right w.1))
              ∙ v.same k (all_left (λ (p : Pair). p.key < k) (before c) (lefts (flat h) opened.left) w.0, all_right (λ (p : Pair). k < p.key) (flats (flat h) opened.right) (after c) w.1);
          own = λ k q.
              let z = edged.own k q in
              let y = v.own k (ap closed_at (sym z.0) ∙ q) in
              (z.0 ∙ y.0, all_after c (λ j. k < j) (λ i j s t. omega arith) opened.right rises_after (near_larger _ k next.at l e r z.2 y.1));
        }

    lies_left : (next.at ≡ 0 → Nearest (All (λ (p : Pair). from_start b p.key ≡ false) (before c)) (λ k. from_start b k ≡ false) l) → All (λ (p : Pair). from_start b p.key ≡ false) (before (way_to c n opened))
    lies_left g = all_before c (λ k. from_start b k ≡ false) (start_down b) opened.left rises_before (near_left _ (from_start b) next.at l e r stops g)

    lies_below : (k : ℕ) → closed_at next.bound ≡ some k → (next.at ≡ 0 → Nearest (Below k (before c)) (λ j. leb k j ≡ false) l) → Below k (before (way_to c n opened))
    lies_below k q g =
        all_before c (λ j. j < k) (λ i j s t. omega arith) opened.left rises_before
        (near_map _ (λ j. leb k j ≡ false) (λ j. j < k) (λ j w. leb-false k j w) opened.left (near_left _ (leb k) next.at l e r (edged.own k q).1 g))

-- ---- both edges in one node

open_more : {A : Type 0} (i n : ℕ) (l : List (Item A)) (e : A) (r : List (Item A)) → open_at n (open_at i l e r).left (open_at i l e r).hole (open_at i l e r).right ≡ open_at (i + n) l e r
open_more i n l e [] = refl
open_more zero n l e (x ∷ r) = ap (λ (m : ℕ). open_at m l e (x ∷ r)) (let z : n ≡ 0 + n = omega arith in z)
open_more (suc i) n l e (x ∷ r) = open_more i n (record { pair = x.pair; edge = e } ∷ l) x.edge r ∙ ap (λ (m : ℕ). open_at m l e (x ∷ r)) (let z : suc (i + n) ≡ suc i + n = omega arith in z)

keys_right : {A : Type 0} (i : ℕ) (l : List (Item A)) (e : A) (r : List (Item A)) → keys_of (open_at i l e r).right ≡ drop i (keys_of r)
keys_right zero l e [] = refl
keys_right (suc i) l e [] = refl
keys_right zero l e (x ∷ r) = refl
keys_right (suc i) l e (x ∷ r) = keys_right i (record { pair = x.pair; edge = e } ∷ l) x.edge r

module _ {A : Type 0} (f : A → List Pair) where
  inner_right : (n : ℕ) (l : List (Item A)) (e : A) (r : List (Item A)) → n < length r
      → flats f r ≡ inner f (suc n) r ++ (f (open_at (suc n) l e r).hole ++ flats f (open_at (suc n) l e r).right)
  inner_right n l e [] s = absurd (omega arith)
  inner_right zero l e (x ∷ []) s = refl
  inner_right zero l e (x ∷ y ∷ r) s = refl
  inner_right (suc n) l e (x ∷ r) s = ap (λ (ps : List Pair). x.pair ∷ (f x.edge ++ ps)) (inner_right n (record { pair = x.pair; edge = e } ∷ l) x.edge r (le_of_suc-le-suc s)) ∙ simp append_assoc

  inner_left : (n : ℕ) (l : List (Item A)) (e : A) (r : List (Item A)) → n < length r → lefts f (open_at (suc n) l e r).left ≡ lefts f l ++ (f e ++ inner f (suc n) r)
  inner_left n l e [] s = absurd (omega arith)
  inner_left zero l e (x ∷ []) s = refl
  inner_left zero l e (x ∷ y ∷ r) s = refl
  inner_left (suc n) l e (x ∷ r) s = inner_left n (record { pair = x.pair; edge = e } ∷ l) x.edge r (le_of_suc-le-suc s) ∙ simp append_assoc

-- ---- the pairs of the range

module _ (q : Range) where
  abbrev admits : Pair → Bool
  admits p = from_start q.start p.key && to_end q.end p.key

  range_append : (a b : List Pair) → range q (a ++ b) ≡ range q a ++ range q b
  range_append [] b = refl
  range_append (p ∷ a) b = go (admits p) (range_append a b)
    where
      go : (v : Bool) → range q (a ++ b) ≡ range q a ++ range q b → cond v (p ∷ range q (a ++ b)) (range q (a ++ b)) ≡ cond v (p ∷ range q a) (range q a) ++ range q b
      go true i = ap (λ (l : List Pair). p ∷ l) i
      go false i = i

  range_all : (a : List Pair) → All (λ (p : Pair). admits p ≡ true) a → range q a ≡ a
  range_all [] h = refl
  range_all (p ∷ a) h = rw h.0 (ap (λ (l : List Pair). p ∷ l) (range_all a h.1))

  range_no : (a : List Pair) → All (λ (p : Pair). admits p ≡ false) a → range q a ≡ []
  range_no [] h = refl
  range_no (p ∷ a) h = rw h.0 (range_no a h.1)

range_agree : (q q' : Range) (a : List Pair) → All (λ (p : Pair). admits q p ≡ admits q' p) a → range q a ≡ range q' a
range_agree q q' [] h = refl
range_agree q q' (p ∷ a) h = rw h.0 (ap (λ (l : List Pair). cond (admits q' p) (p ∷ l) l) (range_agree q q' a h.1))

and_false : (x y : Bool) → y ≡ false → (x && y) ≡ false
and_false true y e = e
and_false false y e = refl

range_parts : (q b : Range) (A E M F Z : List Pair) → All (λ (p : Pair). from_start q.start p.key ≡ false) A
    → All (λ (p : Pair). (from_start b.start p.key ≡ from_start q.start p.key) × (to_end q.end p.key ≡ true)) E
    → All (λ (p : Pair). (from_start q.start p.key ≡ true) × (to_end q.end p.key ≡ true)) M
    → All (λ (p : Pair). (from_start q.start p.key ≡ true) × (to_end b.end p.key ≡ to_end q.end p.key)) F
    → All (λ (p : Pair). to_end q.end p.key ≡ false) Z
    → range q (A ++ (E ++ (M ++ (F ++ Z)))) ≡ range (record { start = b.start; end = AllIncluded }) E ++ (M ++ range (record { start = AllIncluded; end = b.end }) F)
range_parts q b A E M F Z ha he hm hf hz =
    let lo : Range = record { start = b.start; end = AllIncluded } in
    let hi : Range = record { start = AllIncluded; end = b.end } in
    let a : range q A ≡ [] = range_no q A (all_map _ _ (λ (p : Pair) (x : from_start q.start p.key ≡ false). rw x) A ha) in
    let e : range q E ≡ range lo E = range_agree q lo E (all_map _ _ (λ (p : Pair) (x : (from_start b.start p.key ≡ from_start q.start p.key) × (to_end q.end p.key ≡ true)). rw x.1 (ap (λ (v : Bool). v && true) (sym x.0))) E he) in
    let m : range q M ≡ M = range_all q M (all_map _ _ (λ (p : Pair) (x : (from_start q.start p.key ≡ true) × (to_end q.end p.key ≡ true)). rw x.0 x.1) M hm) in
    let f : range q F ≡ range hi F = range_agree q hi F (all_map _ _ (λ (p : Pair) (x : (from_start q.start p.key ≡ true) × (to_end b.end p.key ≡ to_end q.end p.key)). rw x.0 (sym x.1)) F hf) in
    let z : range q Z ≡ [] = range_no q Z (all_map _ _ (λ (p : Pair) (x : to_end q.end p.key ≡ false). and_false (from_start q.start p.key) (to_end q.end p.key) x) Z hz) in
    simp (range_append, a, e, m, f, z, append-nil)

-- between two edges that part the pairs by the two bounds lies the range
fork_pairs : (r b : Range) {h : ℕ} (c : Ctx (suc h)) (t : Tree (suc h)) (i j : ℕ) → i < j → j ≤ length t.rest → Rising (flat_of (plug c t))
    → Divides from_start r.start b.start (down_at c t i) → Divides past_end r.end b.end (down_at c t j)
    → range r (flat_of (plug c t)) ≡ range (record { start = b.start; end = AllIncluded }) (flat h (hole_at t i)) ++ (between_at (flat h) t i j ++ range (record { start = AllIncluded; end = b.end }) (flat h (hole_at t j)))
fork_pairs r b {h} c t i j ij inside u lo hi = ap (range r) whole ∙ range_parts r b (before di) E M F (after dj) lo.befores on_e on_m on_f (all_map _ _ (λ (p : Pair) (x : past_end r.end p.key ≡ true). not_true (to_end r.end p.key) x) (after dj) hi.afters)
  where
    oi : Opened (Tree h)
    oi = open_at i [] t.first t.rest

    oj : Opened (Tree h)
    oj = open_at j [] t.first t.rest

    di : Ctx h
    di = down_at c t i

    dj : Ctx h
    dj = down_at c t j

    E : List Pair
    E = flat h oi.hole

    M : List Pair
    M = between_at (flat h) t i j

    F : List Pair
    F = flat h oj.hole

    n : ℕ
    n = j - i - 1

    more : suc n ≡ j - i
    more = omega arith

    long : n < length oi.right
    long = omega (arith, ap length (keys_right i [] t.first t.rest), length-drop i (keys_of t.rest), length-map t.rest (λ (x : Item (Tree h)). x.pair.key), length-map oi.right (λ (x : Item (Tree h)). x.pair.key))

    onward : open_at (suc n) oi.left oi.hole oi.right ≡ oj
    onward = open_more i (suc n) [] t.first t.rest ∙ ap (λ (m : ℕ). open_at m [] t.first t.rest) (let z : i + suc n ≡ j = omega arith in z)

    rights : flats (flat h) oi.right ≡ M ++ (F ++ flats (flat h) oj.right)
    rights = inner_right (flat h) n oi.left oi.hole oi.right long ∙ (ap (λ (o : Opened (Tree h)). inner (flat h) (suc n) oi.right ++ (flat h o.hole ++ flats (flat h) o.right)) onward ∙ ap (λ (m : ℕ). inner (flat h) m oi.right ++ (F ++ flats (flat h) oj.right)) more)

    sides : lefts (flat h) oj.left ≡ lefts (flat h) oi.left ++ (E ++ M)
    sides = ap (λ (o : Opened (Tree h)). lefts (flat h) o.left) (sym onward) ∙ (inner_left (flat h) n oi.left oi.hole oi.right long ∙ ap (λ (m : ℕ). lefts (flat h) oi.left ++ (E ++ inner (flat h) m oi.right)) more)

    listed : (k : ℕ) → flat_of (plug c t) ≡ before (down_at c t k) ++ (flat h (hole_at t k) ++ after (down_at c t k))
    listed k = ap flat_of (sym (down_plug c t k)) ∙ flat_plug (down_at c t k) (hole_at t k)

    afters : after di ≡ M ++ (F ++ after dj)
    afters = ap (λ (ps : List Pair). ps ++ after c) rights ∙ simp append_assoc

    befores : before dj ≡ before di ++ (E ++ M)
    befores = ap (λ (ps : List Pair). before c ++ ps) sides ∙ simp append_assoc

    whole : flat_of (plug c t) ≡ before di ++ (E ++ (M ++ (F ++ after dj)))
    whole = listed i ∙ ap (λ (ps : List Pair). before di ++ (E ++ ps)) afters

    belongs : (k : ℕ) → All (λ (p : Pair). Belongs (down_at c t k) p.key) (flat h (hole_at t k))
    belongs k = middle_belongs (before (down_at c t k)) (flat h (hole_at t k)) (after (down_at c t k)) (subst Rising (listed k) u)

    started : All (λ (p : Pair). from_start r.start p.key ≡ true) (M ++ (F ++ after dj))
    started = subst (All (λ (p : Pair). from_start r.start p.key ≡ true)) afters lo.afters

    unended : All (λ (p : Pair). to_end r.end p.key ≡ true) (E ++ M)
    unended = all_right _ (before di) (E ++ M) (subst (All (λ (p : Pair). to_end r.end p.key ≡ true)) befores (all_map _ _ (λ (p : Pair) (x : past_end r.end p.key ≡ false). not_false (to_end r.end p.key) x) (before dj) hi.befores))

    on_e : All (λ (p : Pair). (from_start b.start p.key ≡ from_start r.start p.key) × (to_end r.end p.key ≡ true)) E
    on_e = all_both _ _ _ (λ (p : Pair) (x : Belongs di p.key) (y : to_end r.end p.key ≡ true). (lo.same p.key x, y)) E (belongs i) (all_left _ E M unended)

    on_m : All (λ (p : Pair). (from_start r.start p.key ≡ true) × (to_end r.end p.key ≡ true)) M
    on_m = all_both _ _ _ (λ (p : Pair) (x : from_start r.start p.key ≡ true) (y : to_end r.end p.key ≡ true). (x, y)) M (all_left _ M (F ++ after dj) started) (all_right _ E M unended)

    on_f : All (λ (p : Pair). (from_start r.start p.key ≡ true) × (to_end b.end p.key ≡ to_end r.end p.key)) F
    on_f = all_both _ _ _ (λ (p : Pair) (x : from_start r.start p.key ≡ true) (y : Belongs dj p.key). (x, not_same (to_end b.end p.key) (to_end r.end p.key) (hi.same p.key y))) F (all_left _ F (after dj) (all_right _ M (F ++ after dj) started)) (belongs j)

-- ---- the fork

divides_past : (e e' : SearchBound) {h : ℕ} (d : Ctx h) → Carried (mirror e) (mirror e') d → All (λ (p : Pair). from_start (mirror e) p.key ≡ false) (before d)
    → ((k : ℕ) → closed_at (mirror e') ≡ some k → Below k (before d)) → Divides past_end e e' d
divides_past e e' d v a g =
    record {
      befores = all_map _ _ (λ (p : Pair) (x : from_start (mirror e) p.key ≡ false). past_mirror e p.key ∙ x) (before d) a;
      afters = all_map _ _ (λ (p : Pair) (x : from_start (mirror e) p.key ≡ true). past_mirror e p.key ∙ x) (after d) v.afters;
      same = λ k w. past_mirror e' k ∙ (v.same k w ∙ sym (past_mirror e k));
      own = λ k q. let z = v.own k (mirror_closed e' ∙ q) in (sym (mirror_twice e') ∙ (ap mirror z.0 ∙ mirror_twice e), (g k (mirror_closed e' ∙ q), z.1));
    }

-- at the node t, come to with the bounds q
module _ (r : Range) (q : Range) {h : ℕ} (c : Ctx (suc h)) (t : Tree (suc h)) (u : Rising (flat_of (plug c t))) (lo : Divides from_start r.start q.start c) (hi : Carried (mirror r.end) (mirror q.end) c) where
  abbrev low : BoundEdge
  low = low_at q c t

  abbrev high : BoundEdge
  high = high_at q c t

  start_held : Carried r.start q.start c
  start_held = record { afters = lo.afters; same = lo.same; own = λ k z. let y = lo.own k z in (y.0, y.1.1) }

  lower : Divides from_start r.start low.bound (down_at c t low.at)
  lower =
      let v = carried c t.no [] t.first t.rest u r.start q.start start_held in
      let e = edged c t.no [] t.first t.rest u r.start q.start start_held in
      record {
        befores = lies_left c t.no [] t.first t.rest u r.start q.start start_held (λ z. lo.befores);
        afters = v.afters;
        same = v.same;
        own = λ k z.
            let y = v.own k z in
            let g : Below k (before c) = (lo.own k (ap closed_at (sym (e.own k z).0) ∙ z)).1.0 in
            (y.0, (lies_below c t.no [] t.first t.rest u r.start q.start start_held k z (λ s. g), y.1));
      }

  -- the node open at the lower edge, and the upper edge from there on
  abbrev o : Opened (Tree h)
  o = open_at low.at [] t.first t.rest

  abbrev up : BoundEdge
  up = lower_edge (mirror q.end) (keys_of o.right)

  rises : Rising (flat_of (plug c (fill t.no o.left o.hole o.right)))
  rises = subst (λ (x : Tree (suc h)). Rising (flat_of (plug c x))) (sym (open_fill t.no low.at [] t.first t.rest)) u

  high_is : high ≡ record { at = low.at + up.at; bound = mirror up.bound }
  high_is = upper_mirror low.at (keys_of t.rest) (lower_inside q.start (keys_of t.rest)) q.end ∙ ap (λ (ks : List ℕ). record { at = low.at + (lower_edge (mirror q.end) ks).at; bound = mirror (lower_edge (mirror q.end) ks).bound }) (sym (keys_right low.at [] t.first t.rest))

  high_at_is : high.at ≡ low.at + up.at
  high_at_is = ap (λ (d : BoundEdge). d.at) high_is

  high_bound : up.bound ≡ mirror high.bound
  high_bound = sym (ap (λ (d : BoundEdge). mirror d.bound) high_is ∙ mirror_twice up.bound)

  high_open : open_at up.at o.left o.hole o.right ≡ open_at high.at [] t.first t.rest
  high_open = open_more low.at up.at [] t.first t.rest ∙ ap (λ (m : ℕ). open_at m [] t.first t.rest) (sym high_at_is)

  end_held : Carried (mirror r.end) (mirror high.bound) (down_at c t high.at)
  end_held =
      let v = carried c t.no o.left o.hole o.right rises (mirror r.end) (mirror q.end) hi in
      subst (λ (b : SearchBound). Carried (mirror r.end) b (down_at c t high.at)) high_bound (subst (λ (x : Opened (Tree h)). Carried (mirror r.end) up.bound (way_to c t.no x)) high_open v)

  upper : low.at < high.at → Divides past_end r.end high.bound (down_at c t high.at)
  upper l =
      let no : up.at ≡ 0 → ⊥ = λ z. omega (arith, high_at_is) in
      divides_past r.end high.bound (down_at c t high.at) end_held
      (subst (λ (x : Opened (Tree h)). All (λ (p : Pair). from_start (mirror r.end) p.key ≡ false) (before (way_to c t.no x))) high_open (lies_left c t.no o.left o.hole o.right rises (mirror r.end) (mirror q.end) hi (λ z. absurd (no z))))
      (λ k z. subst (λ (x : Opened (Tree h)). Below k (before (way_to c t.no x))) high_open (lies_below c t.no o.left o.hole o.right rises (mirror r.end) (mirror q.end) hi k (ap closed_at high_bound ∙ z) (λ s. absurd (no s))))

  high_inside : high.at ≤ length t.rest
  high_inside = omega (arith, high_at_is, lower_inside (mirror q.end) (keys_of o.right), lower_inside q.start (keys_of t.rest), ap length (keys_right low.at [] t.first t.rest), length-drop low.at (keys_of t.rest), length-map t.rest (λ (x : Item (Tree h)). x.pair.key))

  parts_here : low.at < high.at → PartsAt r (plug c t) c t low.at high.at (bounds_at q c t)
  parts_here l = record { whole = refl; apart = l; inside = high_inside; lower = lower; upper = upper l; pairs = fork_pairs r (bounds_at q c t) c t low.at high.at l high_inside u lower (upper l) }

  -- where the two coincide
  end_below : high.at ≤ low.at → Carried (mirror r.end) (mirror high.bound) (down_at c t low.at)
  end_below l = subst (λ (i : ℕ). Carried (mirror r.end) (mirror high.bound) (down_at c t i)) (let z : high.at ≡ low.at = omega (arith, high_at_is) in z) end_held

module _ (r : Range) (w : Whole) (u : Rising (flat_of w)) where
  fork_down : (q : Range) (h : ℕ) (c : Ctx h) (t : Tree h) → plug c t ≡ w → Divides from_start r.start q.start c → Carried (mirror r.end) (mirror q.end) c → Forks r w (fork q h c t)
  fork_down q zero c t hw lo hi =
      let z = all_map _ _ (λ (p : Pair) (x : from_start (mirror r.end) p.key ≡ true). past_mirror r.end p.key ∙ x) (after c) hi.afters in
      record { whole = hw; befores = lo.befores; afters = z; pairs = ap (range r) (ap flat_of (sym hw) ∙ flat_plug c t) ∙ empty z }
    where
      empty : All (λ (p : Pair). past_end r.end p.key ≡ true) (after c) → range r (before c ++ after c) ≡ []
      empty z =
          let a : range r (before c) ≡ [] = range_no r (before c) (all_map _ _ (λ (p : Pair) (x : from_start r.start p.key ≡ false). rw x) (before c) lo.befores) in
          let b : range r (after c) ≡ [] = range_no r (after c) (all_map _ _ (λ (p : Pair) (x : past_end r.end p.key ≡ true). and_false (from_start r.start p.key) (to_end r.end p.key) (not_true (to_end r.end p.key) x)) (after c) z) in
          simp (range_append, a, b)
  fork_down q (suc h) c t hw lo hi = ⊎_elim here (below (fork_down (bounds_at q c t) h (down_at c t (low_at q c t).at) (hole_at t (low_at q c t).at))) (below_or (low_at q c t).at (high_at q c t).at)
    where
      rises_here : Rising (flat_of (plug c t))
      rises_here = subst (λ (x : Whole). Rising (flat_of x)) (sym hw) u

      here : (low_at q c t).at < (high_at q c t).at → Forks r w (fork q (suc h) c t)
      here l = subst (Forks r w) (sym (fork_here q c t l)) (subst (λ (x : Whole). PartsAt r x c t (low_at q c t).at (high_at q c t).at (bounds_at q c t)) hw (parts_here r q c t rises_here lo hi l))

      Goes : Type 0
      Goes = plug (down_at c t (low_at q c t).at) (hole_at t (low_at q c t).at) ≡ w → Divides from_start r.start (low_at q c t).bound (down_at c t (low_at q c t).at) → Carried (mirror r.end) (mirror (high_at q c t).bound) (down_at c t (low_at q c t).at)
          → Forks r w (fork (bounds_at q c t) h (down_at c t (low_at q c t).at) (hole_at t (low_at q c t).at))

      below : Goes → (high_at q c t).at ≤ (low_at q c t).at → Forks r w (fork q (suc h) c t)
      below ih l = subst (Forks r w) (sym (fork_below q c t l)) (ih (down_plug c t (low_at q c t).at ∙ hw) (lower r q c t rises_here lo hi) (end_below r q c t rises_here lo hi l))

pub fork_right : ForkRight
fork_right r w u = fork_down r w u r w.height top w.root refl (record { befores = tt; afters = tt; same = λ k z. refl; own = λ k z. (refl, (tt, tt)) }) (record { afters = tt; same = λ k z. refl; own = λ k z. (refl, tt) })
