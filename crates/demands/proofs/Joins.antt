-- Document 02's theorems of joins: a cut is undone by a join, and three arenas join to the same pairs whichever neighbours are joined first.
-- Assumes nothing.
use Prim.Native.Nat.{ℕ, ◌+◌, ◌*◌, ◌≤◌}
use native.Mathlib.Omega.{arith}
use mathlib.Core.Path.{◌≡◌, refl, sym, ap, ap₂, subst, ◌∙◌}
use mathlib.Core.Logic.{inl, inr}
use mathlib.Core.List.{List}
use lib.ListN.{length}
use Rattle.model.specs.declared.Answer.{Answer}
use Rattle.model.specs.declared.Answer.TheVariants.{Done}
use Rattle.model.specs.Tree.{Pair}
use Rattle.model.specs.Mark.{higher, stored_mark}
use Rattle.model.specs.Map.{Rising}
use Rattle.model.specs.Plain.{lower, upper}
use Rattle.model.specs.Merge.{merge}
use Rattle.model.specs.Room.{nodes_for}
use Rattle.model.specs.State.{list}
use Rattle.model.specs.WellFormed.{WellFormed}
use Rattle.model.specs.Promise.{Exceeds}
use Rattle.model.proofs.Decode.{state_of}
use Rattle.model.proofs.Forward.{forward}
use Rattle.model.proofs.Marks.{higher_assoc}
use Rattle.loading.proofs.Plain.{parts_length, parts_merge}
use Rattle.loading.proofs.Merging.{merge_assoc}
use Rattle.loading.proofs.Least.{room_enough}
use Rattle.loading.proofs.Joins.{higher_same}
use Rattle.demands.specs.Plain.{Plain}
use Rattle.demands.specs.Stored.{stored, held}
use Rattle.demands.specs.Call.{Did, ByMap}
use Rattle.demands.specs.Calls as call
use Rattle.demands.specs.Public.{cut_first, join_first, join_second}
use Rattle.demands.specs.Demands.{CutThenJoin, JoinsTo, ThreeInOrder}
use Rattle.demands.proofs.Reading.{stored_is}
use Rattle.demands.proofs.Lawful.{long_is}
use Rattle.demands.proofs.Every.{as_the_map, accepted}

rises : {w : List ℕ} → WellFormed w → Rising (stored w)
rises {w} f = let h = forward w f in subst Rising (sym (stored_is h)) h.sound.rising

-- ---- a cut, then a join

module _ (k : ℕ) (w w₁ w₂ v v₁ v₂ o o₂ : List ℕ) (r : Answer) (c : Did (call.cut_first k v) w w₁ v₁ Done) (long : 2 * length (stored w) ≤ length o) where
  first_pairs : stored w₁ ≡ lower k (stored w)
  first_pairs = ap (λ (p : Plain). p.pairs) c.holds

  second_pairs : stored v₁ ≡ upper k (stored w)
  second_pairs = ap (λ (p : Plain). p.pairs) c.leaves.1

  run_again : merge (stored w₁) (stored v₁) ≡ stored w
  run_again =
      let h = forward w (c.was_formed refl) in
      ap₂ merge first_pairs second_pairs ∙ (ap (λ ps. merge (lower k ps) (upper k ps)) (stored_is h) ∙ (parts_merge k _ h.sound ∙ sym (stored_is h)))

  -- two words for each pair of both are two for each old pair
  pairs_again : length (stored w₁) + length (stored v₁) ≡ length (stored w)
  pairs_again =
      let h = forward w (c.was_formed refl) in
      ap₂ (λ (a b : List Pair). length a + length b) first_pairs second_pairs ∙ (ap (λ ps. length (lower k ps) + length (upper k ps)) (stored_is h) ∙ (parts_length k _ h.sound ∙ sym (ap length (stored_is h))))

  -- it has room
  no_lack : Exceeds (merge (stored w₁) (stored v₁)) w₁ → ⊥
  no_lack e =
      let h = forward w (c.was_formed refl) in
      let s = state_of w in
      let y : nodes_for (length (merge (stored w₁) (stored v₁))) ≡ nodes_for (length (list s)) = ap (λ (ps : List Pair). nodes_for (length ps)) (run_again ∙ stored_is h) in
      omega (arith, e.sized.long_is, c.long_same, long_is h, room_enough s h.sound, e.lacks, y)

  again : ByMap (call.join_first v₁ o) w₁ w₂ (v₂, o₂) r → (r ≡ Done) × (held w₂ ≡ held w)
  again (inl x) = absurd (x.0 c.formed)
  again (inr (n, inl x)) = absurd (x.0 c.leaves.0)
  again (inr (n, inr (m, inl x))) = absurd (omega (arith, x.0, pairs_again, long))
  again (inr (n, inr (m, inr (p, inl x)))) = absurd (no_lack x.0)
  again (inr (n, inr (m, inr (p, inr (q, x))))) =
      let mark : higher (stored_mark w₁) (stored_mark v₁) ≡ stored_mark w = ap₂ higher (ap (λ (p : Plain). p.mark) c.holds) (ap (λ (p : Plain). p.mark) c.leaves.1) ∙ higher_same (stored_mark w) in
      (x.says, x.holds ∙ (λ i. record { pairs = run_again i; mark = mark i }))

pub cut_then_join : CutThenJoin
cut_then_join k w w₁ w₂ v v₁ v₂ o o₂ r c long j =
    again k w w₁ w₂ v v₁ v₂ o o₂ r (accepted (call.cut_first k v) (cut_first k v) w w₁ v₁ Done c refl) long (as_the_map (call.join_first v₁ o) (join_first v₁ o) w₁ w₂ (v₂, o₂) r j)

-- ---- three in their order

joins : {w v w' : List ℕ} (j : JoinsTo w v w') → Did (call.join_first v j.third) w w' (j.second_after, j.third_after) Done
joins {w} {v} {w'} j = accepted (call.join_first v j.third) (join_first v j.third) w w' (j.second_after, j.third_after) Done j.done refl

-- the second was well-formed too
second_formed : {w v w' : List ℕ} → JoinsTo w v w' → WellFormed v
second_formed {w} {v} {w'} j = (accepted (call.join_second w j.third) (join_second w j.third) v j.second_after (w', j.third_after) Done j.done refl).was_formed refl

pub three_in_order : ThreeInOrder
three_in_order a b c ab ab-c bc a-bc j₁ j₂ j₃ j₄ =
    let x = joins j₁ in
    let y = joins j₂ in
    let z = joins j₃ in
    let u = joins j₄ in
    let before : merge (stored ab) (stored c) ≡ merge (merge (stored a) (stored b)) (stored c) = ap (λ ps. merge ps (stored c)) (ap (λ (p : Plain). p.pairs) x.holds) in
    let later : merge (stored a) (stored bc) ≡ merge (stored a) (merge (stored b) (stored c)) = ap (merge (stored a)) (ap (λ (p : Plain). p.pairs) z.holds) in
    let pairs = before ∙ (merge_assoc (stored a) (stored b) (stored c) (rises (x.was_formed refl)) (rises (z.was_formed refl)) (rises (second_formed j₃)) ∙ sym later) in
    let mark : higher (stored_mark ab) (stored_mark c) ≡ higher (stored_mark a) (stored_mark bc) =
    ap (λ m. higher m (stored_mark c)) (ap (λ (p : Plain). p.mark) x.holds) ∙ (higher_assoc (stored_mark a) (stored_mark b) (stored_mark c) ∙ sym (ap (higher (stored_mark a)) (ap (λ (p : Plain). p.mark) z.holds))) in
    y.holds ∙ ((λ i. record { pairs = pairs i; mark = mark i }) ∙ sym u.holds)
