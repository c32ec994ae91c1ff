-- The public calls on two arenas, cut and join, are lawful seen from either.
-- Assumes nothing.
use Prim.Native.Nat.{ℕ, ◌+◌, ◌<◌}
use native.Mathlib.Omega.{arith}
use mathlib.Core.Path.{◌≡◌, refl, sym, ap, ap₂, subst, ◌∙◌}
use mathlib.Core.Logic.{inl, inr}
use mathlib.Core.List.{List, []}
use lib.ListN.{length}
use Rattle.model.specs.declared.Answer.{Answer}
use Rattle.model.specs.Layout.{base, Sized}
use Rattle.model.specs.Tree.{Pair}
use Rattle.model.specs.Mark.{unseen, higher, stored_mark}
use Rattle.model.specs.Plain.{lower, upper}
use Rattle.model.specs.Merge.{merge}
use Rattle.model.specs.Join.{joined_run}
use Rattle.model.specs.Room.{nodes_for}
use Rattle.model.specs.Parting.{part_off}
use Rattle.model.specs.State.{State, list}
use Rattle.model.specs.Words.{words_of}
use Rattle.model.specs.Sound.{Sound}
use Rattle.model.specs.WellFormed.{WellFormed}
use Rattle.model.specs.Promise.{Ends, Holds, laid, Exceeds, Parted, Cut, Joined, Join}
use Rattle.model.proofs.Backward.{backward}
use Rattle.model.proofs.Unique.{one_count, one_cut, one_join}
use Rattle.model.proofs.Header.{stored_mark_is}
use Rattle.model.proofs.Ends.{both_ways}
use Rattle.loading.proofs.Loads.{load_list}
use Rattle.loading.proofs.Cuts.{cut_sound, part_sound}
use Rattle.loading.proofs.Plain.{cut_lower, part_upper}
use Rattle.loading.proofs.Joins.{joined_list, joined_sound, emptied_sound}
use Rattle.demands.specs.Plain.{Plain}
use Rattle.demands.specs.Stored.{stored, held}
use Rattle.demands.specs.Call.{refusal, Did}
use Rattle.demands.specs.Calls as call
use Rattle.demands.specs.Calls.{cut_refusals, join_refusals}
use Rattle.demands.proofs.Reading.{stored_is, held_is}
use Rattle.demands.proofs.Marks.{mark_raises}
use Rattle.demands.proofs.Lawful.{Lawful, kept_words, long_is, ends_map, refused_beside}

-- what is left of one of the two: well-formed words of the old length, which hold p
record LeftOf (w w' : List ℕ) (p : Plain) : Type 0 where
  formed : WellFormed w'
  long_same : length w' ≡ length w
  holds : held w' ≡ p

left_of : {w w' : List ℕ} {t : State} {p : Plain} → Sound t → w' ≡ words_of t → length w ≡ base t.size → list t ≡ p.pairs → t.mark ≡ p.mark → LeftOf w w' p
left_of {w} {w'} {t} o e z a b =
    let h = kept_words o e in
    record { formed = backward w' t h; long_same = long_is h ∙ sym z; holds = held_is h ∙ (λ i. record { pairs = a i; mark = b i }) }

-- ---- cut

-- no word of either is changed
abbrev Same : (w w' v v' : List ℕ) → Answer → Answer → Type 0
Same w w' v v' r a = (w' ≡ w) × (v' ≡ v) × (r ≡ a)

module _ (k : ℕ) where
  -- the pairs that go, by the words
  gone_is : {w : List ℕ} {s : State} → Holds w s → part_off k s ≡ upper k (stored w)
  gone_is {s = s} h = part_upper k s h.sound ∙ ap (upper k) (sym (stored_is h))

  -- the refusals, by the words
  cut_ends : {w w' v v' : List ℕ} {r : Answer} → Cut k w w' v v' r → Ends (cut_refusals k w v) (Same w w' v v' r) (Parted k w w' v v' r)
  cut_ends (inl x) = inl x
  cut_ends (inr (n, inl x)) = inr (n, inl x)
  cut_ends {v = v} (inr (n, inr (m, inl x))) = inr (n, inr (m, inl (subst (λ ps. Exceeds ps v) (gone_is x.0.holds) x.0.is, x.1)))
  cut_ends {v = v} (inr (n, inr (m, inr (q, x)))) = inr (n, inr (m, inr ((λ e. q (record { state = x.state; holds = x.holds; is = subst (λ ps. Exceeds ps v) (sym (gone_is x.holds)) e })), x)))

  module _ {w w' v v' : List ℕ} {r : Answer} (x : Parted k w w' v v' r) where
    cut_first_lem : LeftOf w w' (record { pairs = lower k (stored w); mark = stored_mark w })
    cut_first_lem =
        let s = x.state in
        let h = x.holds in
        left_of (cut_sound k s h.sound) x.left (long_is h) (cut_lower k s h.sound ∙ ap (lower k) (sym (stored_is h))) (sym (stored_mark_is h))

    cut_second_lem : LeftOf v v' (record { pairs = upper k (stored w); mark = stored_mark w })
    cut_second_lem =
        let s = x.state in
        let h = x.holds in
        left_of (part_sound k s h.sound x.count x.room x.sized.few) x.moved x.sized.long_is (load_list (part_off k s) s.mark x.count ∙ gone_is h) (sym (stored_mark_is h))

  pub cut_first_lawful : (v : List ℕ) → Lawful (call.cut_first k v)
  cut_first_lawful v = record {
    by_map = λ w w' v' r d. ends_map (cut_refusals k w v) (refused_beside (call.cut_first k v)) (λ n x. did x) (cut_ends d);
    one_end = λ w w₁ w₂ v₁ v₂ r₁ r₂ x y. one_cut k w v x y;
    refusing = λ w. refl;
    raises = λ rooms p. refl;
  }
    where
      did : {w w' v' : List ℕ} {r : Answer} → Parted k w w' v v' r → Did (call.cut_first k v) w w' v' r
      did {w} x =
          let f = cut_first_lem x in
          let g = cut_second_lem x in
          record {
            was_formed = λ b. backward w x.state x.holds;
            formed = f.formed;
            long_same = f.long_same;
            says = x.said;
            holds = f.holds;
            leaves = (g.formed, g.holds);
            refused_same = λ b. both_ways b (ap refusal x.said);
          }

  pub cut_second_lawful : (w : List ℕ) → Lawful (call.cut_second k w)
  cut_second_lawful w = record {
    by_map = λ v v' w' r d. ends_map (cut_refusals k w v) (λ a (x : Same w w' v v' r a). refused_beside (call.cut_second k w) a (x.1, x.0, x.2)) (λ n x. did x) (cut_ends d);
    one_end = λ v v₁ v₂ w₁ w₂ r₁ r₂ x y. let e = one_cut k w v x y in (e.1, e.0, e.2);
    refusing = λ v. refl;
    raises = λ rooms p. mark_raises unseen (stored_mark w);
  }
    where
      did : {v v' w' : List ℕ} {r : Answer} → Parted k w w' v v' r → Did (call.cut_second k w) v v' w' r
      did x =
          let f = cut_first_lem x in
          let g = cut_second_lem x in
          record {
            was_formed = λ b. both_ways refl b;
            formed = g.formed;
            long_same = g.long_same;
            says = x.said;
            holds = g.holds;
            leaves = (f.formed, f.holds);
            refused_same = λ b. both_ways b (ap refusal x.said);
          }

-- ---- join

-- the joined run, by the words
run_is : {w v : List ℕ} {s t : State} → Holds w s → Holds v t → joined_run s t ≡ merge (stored w) (stored v)
run_is h g = ap₂ merge (sym (stored_is h)) (sym (stored_is g))

-- the refusals, by the words
module _ {w v : List ℕ} {s t : State} (h : Holds w s) (g : Holds v t) where
  pairs_are : length (list s) + length (list t) ≡ length (stored w) + length (stored v)
  pairs_are = ap₂ (λ (a b : List Pair). length a + length b) (sym (stored_is h)) (sym (stored_is g))

  run_long : length (joined_run s t) ≡ length (merge (stored w) (stored v))
  run_long = ap length (run_is h g)

  sized : Sized s.size (length w)
  sized = record { some = h.sound.some; few = h.sound.few; long_is = long_is h }

  exceeds : s.size < nodes_for (length (joined_run s t)) → Exceeds (merge (stored w) (stored v)) w
  exceeds l = record { count = s.size; sized = sized; lacks = subst (λ n. s.size < nodes_for n) run_long l }

  exceeded : Exceeds (merge (stored w) (stored v)) w → s.size < nodes_for (length (joined_run s t))
  exceeded e = subst (λ n. s.size < nodes_for n) (sym run_long) (subst (λ n. n < nodes_for (length (merge (stored w) (stored v)))) (one_count e.sized sized) e.lacks)

-- no word of the three is changed
abbrev AllSame : (w w' v v' o o' : List ℕ) → Answer → Answer → Type 0
AllSame w w' v v' o o' r a = (w' ≡ w) × (v' ≡ v) × (o' ≡ o) × (r ≡ a)

join_ends : {w w' v v' o o' : List ℕ} {r : Answer} → Join w w' v v' o o' r → Ends (join_refusals w v o) (AllSame w w' v v' o o' r) (Joined w w' v v' o o' r)
join_ends (inl x) = inl x
join_ends (inr (n, inl x)) = inr (n, inl x)
join_ends (inr (n, inr (m, inl x))) = let y = x.0.is in inr (n, inr (m, inl (omega (arith, y.is, pairs_are x.0.holds y.holds), x.1)))
join_ends {o = o} (inr (n, inr (m, inr (p, inl x)))) =
    let y = x.0.is in
    inr (n, inr (m, inr ((λ l. p (record { state = x.0.state; holds = x.0.holds; is = record { state = y.state; holds = y.holds; is = omega (arith, l, pairs_are x.0.holds y.holds) } })), inl (exceeds x.0.holds y.holds y.is, x.1))))
join_ends (inr (n, inr (m, inr (p, inr (q, x))))) =
    let h = x.first_holds in
    let g = x.second_holds in
    inr (
      n,
      inr (
        m,
        inr (
          (λ l. p (record { state = x.first; holds = h; is = record { state = x.second; holds = g; is = omega (arith, l, pairs_are h g) } })),
          inr ((λ e. q (record { state = x.first; holds = h; is = record { state = x.second; holds = g; is = exceeded h g e } })), x),
        ),
      ),
    )

module _ {w w' v v' o o' : List ℕ} {r : Answer} (x : Joined w w' v v' o o' r) where
  join_first_lem : LeftOf w w' (record { pairs = merge (stored w) (stored v); mark = higher (stored_mark w) (stored_mark v) })
  join_first_lem =
      let h = x.first_holds in
      let g = x.second_holds in
      left_of (joined_sound x.first x.second h.sound g.sound x.room) x.left (long_is h) (joined_list x.first x.second ∙ run_is h g) (ap₂ higher (sym (stored_mark_is h)) (sym (stored_mark_is g)))

  join_second_lem : LeftOf v v' (record { pairs = []; mark = stored_mark v })
  join_second_lem = let g = x.second_holds in left_of (emptied_sound x.second g.sound) x.second_left (long_is g) refl (sym (stored_mark_is g))

  join_third : o' ≡ laid (merge (stored w) (stored v)) o
  join_third = x.written ∙ ap (λ ps. laid ps o) (run_is x.first_holds x.second_holds)

pub join_first_lawful : (v o : List ℕ) → Lawful (call.join_first v o)
join_first_lawful v o = record {
  by_map = λ w w' l r d. ends_map (join_refusals w v o) (λ a (x : AllSame w w' v l.0 o l.1 r a). refused_beside (call.join_first v o) a (x.0, (λ i. (x.1 i, x.2 i)), x.3)) (λ n x. did x) (join_ends d);
  one_end = λ w w₁ w₂ l₁ l₂ r₁ r₂ x y. let e = one_join w v o x y in (e.0, (λ i. (e.1 i, e.2 i)), e.3);
  refusing = λ w. refl;
  raises = λ rooms p. mark_raises p.mark (stored_mark v);
}
  where
    did : {w w' v' o' : List ℕ} {r : Answer} → Joined w w' v v' o o' r → Did (call.join_first v o) w w' (v', o') r
    did {w} x =
        let f = join_first_lem x in
        let g = join_second_lem x in
        record {
          was_formed = λ b. backward w x.first x.first_holds;
          formed = f.formed;
          long_same = f.long_same;
          says = x.said;
          holds = f.holds;
          leaves = (g.formed, g.holds, join_third x);
          refused_same = λ b. both_ways b (ap refusal x.said);
        }

pub join_second_lawful : (w o : List ℕ) → Lawful (call.join_second w o)
join_second_lawful w o = record {
  by_map = λ v v' l r d. ends_map (join_refusals w v o) (λ a (x : AllSame w l.0 v v' o l.1 r a). refused_beside (call.join_second w o) a (x.1, (λ i. (x.0 i, x.2 i)), x.3)) (λ n x. did x) (join_ends d);
  one_end = λ v v₁ v₂ l₁ l₂ r₁ r₂ x y. let e = one_join w v o x y in (e.1, (λ i. (e.0 i, e.2 i)), e.3);
  refusing = λ v. refl;
  raises = λ rooms p. refl;
}
  where
    did : {v v' w' o' : List ℕ} {r : Answer} → Joined w w' v v' o o' r → Did (call.join_second w o) v v' (w', o') r
    did {v} x =
        let f = join_first_lem x in
        let g = join_second_lem x in
        record {
          was_formed = λ b. backward v x.second x.second_holds;
          formed = g.formed;
          long_same = g.long_same;
          says = x.said;
          holds = g.holds;
          leaves = (f.formed, f.holds, join_third x);
          refused_same = λ b. both_ways b (ap refusal x.said);
        }
