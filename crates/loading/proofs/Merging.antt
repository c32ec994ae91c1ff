-- Two rising runs joined: rising, the second's pair for a key in both, the map that inserting all of the second's pairs gives; three runs
-- either way round; and two runs parted at a key, one after the other.
-- Assumes nothing.
use Prim.Native.Nat.{ℕ, suc, ◌+◌, ◌≤◌, ◌<◌}
use native.Mathlib.Omega.{arith}
use mathlib.Core.Path.{◌≡◌, refl, ap, ◌∙◌, sym}
use mathlib.Core.Logic.{⊎_elim}
use mathlib.Core.Bool.{Bool, true, false, cond}
use mathlib.Core.List.{List, [], ◌∷◌, ◌++◌}
use mathlib.Core.Option.{Option, some, none}
use lib.Dec.{eqb, ltb}
use lib.ListN.{length}
use borrow.Author.Tests.{eq-eqb, ne_eqb, lt-ltb, le-ltb, ltb-true, ltb-false, eqb-true, eqb-false}
use Rattle.model.specs.Lists.{All}
use Rattle.model.specs.Tree.{Pair}
use Rattle.model.specs.Map.{Below, Above, Rising, look, insert}
use Rattle.model.proofs.Lists.{all_map, same_or}
use Rattle.model.proofs.Rising.{above_le}
use Rattle.model.proofs.Maps.{look_none}
use Rattle.model.specs.Merge.{against, merge, insert_all, or_else}
use Rattle.loading.proofs.Parting.{AtLeast}

-- ---- a step

module _ (p : Pair) (rest : List Pair → List Pair) (q : Pair) (b : List Pair) where
  pub against_first : p.key < q.key → against p rest (q ∷ b) ≡ p ∷ rest (q ∷ b)
  against_first l = rw (lt-ltb p.key q.key l)

  pub against_both : p.key ≡ q.key → against p rest (q ∷ b) ≡ q ∷ rest b
  against_both e = rw (le-ltb p.key q.key (omega arith), eq-eqb p.key q.key e)

  pub against_second : q.key < p.key → against p rest (q ∷ b) ≡ q ∷ against p rest b
  against_second l = rw (le-ltb p.key q.key (omega arith), ne_eqb p.key q.key (λ e. omega arith))

-- which it is
pub data Against (p q : Pair) : Type 0 where
  first : p.key < q.key → Against p q
  both : p.key ≡ q.key → Against p q
  second : q.key < p.key → Against p q

pub compare : (p q : Pair) → Against p q
compare p q = go (ltb p.key q.key) refl (eqb p.key q.key) refl
  where
    go : (s : Bool) → ltb p.key q.key ≡ s → (t : Bool) → eqb p.key q.key ≡ t → Against p q
    go true l t e = first (ltb-true p.key q.key l)
    go false l true e = both (eqb-true p.key q.key e)
    go false l false e = let ne : p.key ≡ q.key → ⊥ = eqb-false p.key q.key e in second (omega (arith, ltb-false p.key q.key l))

-- ---- what holds of all pairs

module _ (P : Pair → Type 0) where
  all_against : (p : Pair) (rest : List Pair → List Pair) → P p → ((b : List Pair) → All P b → All P (rest b)) → (b : List Pair) → All P b → All P (against p rest b)
  all_against p rest hp hr [] hb = (hp, hr [] tt)
  all_against p rest hp hr (q ∷ b) hb = go (compare p q) (all_against p rest hp hr b hb.1)
    where
      go : Against p q → All P (against p rest b) → All P (against p rest (q ∷ b))
      go (first l) ih = rw (against_first p rest q b l) (hp, hr (q ∷ b) hb)
      go (both e) ih = rw (against_both p rest q b e) (hb.0, hr b hb.1)
      go (second l) ih = rw (against_second p rest q b l) (hb.0, ih)

  pub all_merge : (a b : List Pair) → All P a → All P b → All P (merge a b)
  all_merge [] b ha hb = hb
  all_merge (p ∷ a) b ha hb = all_against p (merge a) ha.0 (λ b hb. all_merge a b ha.1 hb) b hb

-- ---- it rises

rising_against : (p : Pair) (a : List Pair) → Above p.key a → ((b : List Pair) → Rising b → Rising (merge a b)) → (b : List Pair) → Rising b → Rising (against p (merge a) b)
rising_against p a up ih [] r = (all_merge (λ (q : Pair). p.key < q.key) a [] up tt, ih [] tt)
rising_against p a up ih (q ∷ b) r = go (compare p q) (rising_against p a up ih b r.1)
  where
    go : Against p q → Rising (against p (merge a) b) → Rising (against p (merge a) (q ∷ b))
    go (first l) hb = rw (against_first p (merge a) q b l) (all_merge (λ (x : Pair). p.key < x.key) a (q ∷ b) up (l, above_le p.key q.key l b r.0), ih (q ∷ b) r)
    go (both e) hb = rw (against_both p (merge a) q b e) (all_merge (λ (x : Pair). q.key < x.key) a b (rw e at up) r.0, ih b r.1)
    go (second l) hb = rw (against_second p (merge a) q b l) (all_merge (λ (x : Pair). q.key < x.key) (p ∷ a) b (l, above_le q.key p.key l a up) r.0, hb)

pub rising_merge : (a b : List Pair) → Rising a → Rising b → Rising (merge a b)
rising_merge [] b ra rb = rb
rising_merge (p ∷ a) b ra rb = rising_against p a ra.0 (λ b rb. rising_merge a b ra.1 rb) b rb

-- ---- its length

length_against : (p : Pair) (rest : List Pair → List Pair) (n : ℕ) → ((b : List Pair) → length (rest b) ≤ n + length b) → (b : List Pair) → length (against p rest b) ≤ suc n + length b
length_against p rest n h [] = omega (arith, h [])
length_against p rest n h (q ∷ b) = go (compare p q) (length_against p rest n h b)
  where
    go : Against p q → length (against p rest b) ≤ suc n + length b → length (against p rest (q ∷ b)) ≤ suc n + length (q ∷ b)
    go (first l) ih = rw (against_first p rest q b l) (omega (arith, h (q ∷ b)))
    go (both e) ih = rw (against_both p rest q b e) (omega (arith, h b))
    go (second l) ih = rw (against_second p rest q b l) (omega arith)

pub length_merge : (a b : List Pair) → length (merge a b) ≤ length a + length b
length_merge [] b = omega arith
length_merge (p ∷ a) b = length_against p (merge a) (length a) (length_merge a) b

-- ---- a key in it

look_is : (k : ℕ) (p : Pair) (a : List Pair) → k ≡ p.key → look k (p ∷ a) ≡ some p.val
look_is k p a e = rw (eq-eqb k p.key e)

look_not : (k : ℕ) (p : Pair) (a : List Pair) → (k ≡ p.key → ⊥) → look k (p ∷ a) ≡ look k a
look_not k p a d = rw (ne_eqb k p.key d)

else_none : (o : Option ℕ) → or_else o none ≡ o
else_none none = refl
else_none (some v) = refl

pub else_assoc : (a b c : Option ℕ) → or_else a (or_else b c) ≡ or_else (or_else a b) c
else_assoc none b c = refl
else_assoc (some v) b c = refl

look_against : (k : ℕ) (p : Pair) (a : List Pair) → ((b : List Pair) → Rising b → look k (merge a b) ≡ or_else (look k b) (look k a)) → (b : List Pair) → Rising b
    → look k (against p (merge a) b) ≡ or_else (look k b) (look k (p ∷ a))
look_against k p a ih [] r = ap (λ (o : Option ℕ). cond (eqb k p.key) (some p.val) o) (ih [] tt)
look_against k p a ih (q ∷ b) r = go (compare p q) (look_against k p a ih b r.1)
  where
    To : List Pair → Type 0
    To l = look k l ≡ or_else (look k (q ∷ b)) (look k (p ∷ a))

    go : Against p q → look k (against p (merge a) b) ≡ or_else (look k b) (look k (p ∷ a)) → To (against p (merge a) (q ∷ b))
    go (first l) hb =
        rw (against_first p (merge a) q b l) (⊎_elim
        (λ (e : k ≡ p.key). look_is k p (merge a (q ∷ b)) e ∙ sym (ap (λ (o : Option ℕ). or_else o (look k (p ∷ a))) (look_none k (q ∷ b) (omega arith, all_map _ _ (λ (x : Pair) (u : q.key < x.key). let z : k < x.key = omega arith in z) b r.0)) ∙ look_is k p a e))
        (λ (d : k ≡ p.key → ⊥). look_not k p (merge a (q ∷ b)) d ∙ (ih (q ∷ b) r ∙ ap (or_else (look k (q ∷ b))) (sym (look_not k p a d))))
        (same_or k p.key))
    go (both e) hb =
        rw (against_both p (merge a) q b e) (⊎_elim
        (λ (i : k ≡ q.key). look_is k q (merge a b) i ∙ sym (ap (λ (o : Option ℕ). or_else o (look k (p ∷ a))) (look_is k q b i)))
        (λ (d : k ≡ q.key → ⊥). look_not k q (merge a b) d ∙ (ih b r.1 ∙ sym (ap (λ (o : Option ℕ). or_else o (look k (p ∷ a))) (look_not k q b d) ∙ ap (or_else (look k b)) (look_not k p a (λ z. d (z ∙ e))))))
        (same_or k q.key))
    go (second l) hb =
        rw (against_second p (merge a) q b l) (⊎_elim
        (λ (i : k ≡ q.key). look_is k q (against p (merge a) b) i ∙ sym (ap (λ (o : Option ℕ). or_else o (look k (p ∷ a))) (look_is k q b i)))
        (λ (d : k ≡ q.key → ⊥). look_not k q (against p (merge a) b) d ∙ (hb ∙ sym (ap (λ (o : Option ℕ). or_else o (look k (p ∷ a))) (look_not k q b d))))
        (same_or k q.key))

pub look_merge : (k : ℕ) (a b : List Pair) → Rising b → look k (merge a b) ≡ or_else (look k b) (look k a)
look_merge k [] b r = sym (else_none (look k b))
look_merge k (p ∷ a) b r = look_against k p a (look_merge k a) b r

-- ---- rising lists in which every key looks alike are equal

none_some : {A : Type 0} (v : ℕ) → none ≡ some v → A
none_some v e = let z : ◌≡◌ {A = ℕ} 0 1 = cc in absurd (omega arith)

some_is : (a b : ℕ) → some a ≡ some b → a ≡ b
some_is a b e = cc

pair_is : (p q : Pair) → p.key ≡ q.key → p.val ≡ q.val → p ≡ q
pair_is p q e f = let h : (k v : ℕ) → p.key ≡ k → p.val ≡ v → p ≡ record { key = k; val = v } = λ k v e f. rw (← e, ← f) in h q.key q.val e f

pub look_ext : (a b : List Pair) → Rising a → Rising b → ((k : ℕ) → look k a ≡ look k b) → a ≡ b
look_ext [] [] ra rb h = refl
look_ext [] (q ∷ b) ra rb h = none_some q.val (h q.key ∙ look_is q.key q b refl)
look_ext (p ∷ a) [] ra rb h = none_some p.val (sym (h p.key) ∙ look_is p.key p a refl)
look_ext (p ∷ a) (q ∷ b) ra rb h = go (compare p q) (look_ext a b ra.1 rb.1)
  where
    go : Against p q → (((k : ℕ) → look k a ≡ look k b) → a ≡ b) → (p ∷ a) ≡ (q ∷ b)
    go (first l) ih = none_some p.val (sym (look_none p.key (q ∷ b) (l, above_le p.key q.key l b rb.0)) ∙ (sym (h p.key) ∙ look_is p.key p a refl))
    go (second l) ih = none_some q.val (sym (look_none q.key (p ∷ a) (l, above_le q.key p.key l a ra.0)) ∙ (h q.key ∙ look_is q.key q b refl))
    go (both e) ih =
        let v = some_is p.val q.val (sym (look_is p.key p a refl) ∙ (h p.key ∙ look_is p.key q b e)) in
        let tails : (k : ℕ) → look k a ≡ look k b = λ k. ⊎_elim
        (λ (i : k ≡ p.key). look_none k a (rw (← i) at ra.0) ∙ sym (look_none k b (rw (← e, ← i) at rb.0)))
        (λ (d : k ≡ p.key → ⊥). sym (look_not k p a d) ∙ (h k ∙ look_not k q b (λ z. d (z ∙ sym e))))
        (same_or k p.key) in
        ap (λ (x : Pair). x ∷ a) (pair_is p q e v) ∙ ap (λ (l : List Pair). q ∷ l) (ih tails)

-- ---- three runs, either way round

pub merge_assoc : (a b c : List Pair) → Rising a → Rising b → Rising c → merge (merge a b) c ≡ merge a (merge b c)
merge_assoc a b c ra rb rc =
    look_ext (merge (merge a b) c) (merge a (merge b c)) (rising_merge (merge a b) c (rising_merge a b ra rb) rc) (rising_merge a (merge b c) ra (rising_merge b c rb rc))
    (λ k. look_merge k (merge a b) c rc ∙ (ap (or_else (look k c)) (look_merge k a b rb) ∙ (else_assoc (look k c) (look k b) (look k a) ∙ (ap (λ (o : Option ℕ). or_else o (look k a)) (sym (look_merge k b c rc)) ∙ sym (look_merge k a (merge b c) (rising_merge b c rb rc))))))

-- ---- all pairs of the second inserted into the first

module _ (j v : ℕ) where
  insert_here : (p : Pair) (a : List Pair) → j ≡ p.key → insert j v (p ∷ a) ≡ record { key = j; val = v } ∷ a
  insert_here p a e = rw (eq-eqb j p.key e)

  insert_low : (p : Pair) (a : List Pair) → j < p.key → insert j v (p ∷ a) ≡ record { key = j; val = v } ∷ p ∷ a
  insert_low p a l = rw (ne_eqb j p.key (λ e. omega arith), lt-ltb j p.key l)

  insert_on : (p : Pair) (a : List Pair) → p.key < j → insert j v (p ∷ a) ≡ p ∷ insert j v a
  insert_on p a l = rw (ne_eqb j p.key (λ e. omega arith), le-ltb j p.key (omega arith))

  abbrev it : Pair
  it = record { key = j; val = v }

  all_inserted : (P : Pair → Type 0) → P it → (a : List Pair) → All P a → All P (insert j v a)
  all_inserted P h [] ha = (h, tt)
  all_inserted P h (p ∷ a) ha = go (compare it p) (all_inserted P h a ha.1)
    where
      go : Against it p → All P (insert j v a) → All P (insert j v (p ∷ a))
      go (first l) ih = rw (insert_low p a l) (h, ha)
      go (both e) ih = rw (insert_here p a e) (h, ha.1)
      go (second l) ih = rw (insert_on p a l) (ha.0, ih)

  pub rising_inserted : (a : List Pair) → Rising a → Rising (insert j v a)
  rising_inserted [] r = (tt, tt)
  rising_inserted (p ∷ a) r = go (compare it p) (rising_inserted a r.1)
    where
      go : Against it p → Rising (insert j v a) → Rising (insert j v (p ∷ a))
      go (first l) ih = rw (insert_low p a l) ((l, above_le j p.key l a r.0), r)
      go (both e) ih = rw (insert_here p a e) (rw (← e) at r.0, r.1)
      go (second l) ih = rw (insert_on p a l) (all_inserted (λ (x : Pair). p.key < x.key) l a r.0, ih)

  look_inserted : (k : ℕ) (a : List Pair) → look k (insert j v a) ≡ cond (eqb k j) (some v) (look k a)
  look_inserted k [] = refl
  look_inserted k (p ∷ a) = go (compare it p) (look_inserted k a)
    where
      go : Against it p → look k (insert j v a) ≡ cond (eqb k j) (some v) (look k a) → look k (insert j v (p ∷ a)) ≡ cond (eqb k j) (some v) (look k (p ∷ a))
      go (first l) ih = ap (look k) (insert_low p a l)
      go (both e) ih =
          ap (look k) (insert_here p a e) ∙ ⊎_elim
          (λ (i : k ≡ j). rw (eq-eqb k j i))
          (λ (d : k ≡ j → ⊥). rw (ne_eqb k j d, ne_eqb k p.key (λ z. d (z ∙ sym e))))
          (same_or k j)
      go (second l) ih =
          ap (look k) (insert_on p a l) ∙ ⊎_elim
          (λ (i : k ≡ p.key). rw (eq-eqb k p.key i, ne_eqb k j (λ z. omega arith)))
          (λ (d : k ≡ p.key → ⊥). rw (ne_eqb k p.key d) ih)
          (same_or k p.key)

rising_all : (b a : List Pair) → Rising a → Rising (insert_all b a)
rising_all [] a r = r
rising_all (q ∷ b) a r = rising_all b (insert q.key q.val a) (rising_inserted q.key q.val a r)

look_all : (k : ℕ) (b a : List Pair) → Rising b → look k (insert_all b a) ≡ or_else (look k b) (look k a)
look_all k [] a r = refl
look_all k (q ∷ b) a r =
    look_all k b (insert q.key q.val a) r.1 ∙ (ap (or_else (look k b)) (look_inserted q.key q.val k a) ∙ ⊎_elim
    (λ (i : k ≡ q.key). rw (eq-eqb k q.key i, look_none k b (rw (← i) at r.0)))
    (λ (d : k ≡ q.key → ⊥). rw (ne_eqb k q.key d))
    (same_or k q.key))

pub merge_inserts : (a b : List Pair) → Rising a → Rising b → merge a b ≡ insert_all b a
merge_inserts a b ra rb = look_ext (merge a b) (insert_all b a) (rising_merge a b ra rb) (rising_all b a ra) (λ k. look_merge k a b rb ∙ sym (look_all k b a rb))

-- ---- runs parted at a key

pub merge_parted : (k : ℕ) (a b : List Pair) → Below k a → AtLeast k b → merge a b ≡ a ++ b
merge_parted k [] b ha hb = refl
merge_parted k (p ∷ a) [] ha hb = ap (λ (l : List Pair). p ∷ l) (merge_parted k a [] ha.1 tt)
merge_parted k (p ∷ a) (q ∷ b) ha hb = against_first p (merge a) q b (omega (arith, ha.0, hb.0)) ∙ ap (λ (l : List Pair). p ∷ l) (merge_parted k a (q ∷ b) ha.1 hb)
