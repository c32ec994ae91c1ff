-- How a cut ends: each refusal under its condition, or done.
-- Assumes nothing.
use Rattle.std.proofs.Common.{ℕ, ◌+◌, ◌-◌, ◌≤◌, ◌<◌, arith, ◌≡◌, refl, sym, ap, ◌∙◌, subst, inl, inr, List, lit<, length, length-append}
use Rattle.model.specs.declared.Answer.TheVariants.{Done, NoRoom}
use Rattle.model.specs.Layout.{Sized, header, pairs_word}
use Rattle.model.specs.Tree.{before, after}
use Rattle.model.specs.State.{State}
use Rattle.model.specs.Load.{loaded_with}
use Rattle.model.specs.Room.{nodes_for}
use Rattle.model.specs.Parting.{path_of, cut_off, part_off}
use Rattle.model.specs.Words.{words_of}
use Rattle.model.specs.Promise.{Holds, AnyCount, Exceeds, Cut}
use Rattle.model.proofs.Backward.{backward}
use Rattle.model.proofs.Header.{header_is}
use Rattle.model.proofs.Unique.{one_count, in_state}
use Rattle.loading.proofs.Parting.{path_list}
use Rattle.cut.specs.Moves.{Upper}

-- the pairs that go, by the pair count and the rank of the key
module _ (k : ℕ) {w : List ℕ} {s : State} (o : Holds w s) (p r : ℕ) (q : p ≡ header w pairs_word) (e : r ≡ length (before (path_of k s.whole))) where
  all_pairs : p ≡ r + length (part_off k s)
  all_pairs = q ∙ header_is o pairs_word (lit< tt) ∙ ap length (sym (path_list k s.whole o.sound.rising)) ∙ length-append (before (path_of k s.whole)) (after (path_of k s.whole)) ∙ ap (λ (n : ℕ). n + length (part_off k s)) (sym e)

  pub rank_few : r ≤ p
  rank_few = omega (arith, all_pairs)

  pub part_pairs : p - r ≡ length (part_off k s)
  part_pairs = omega (arith, all_pairs)

module _ (k : ℕ) (w v : List ℕ) where
  module _ (n : ℕ) (z : Sized n (length v)) where
    sized : (AnyCount (length v) → ⊥) → ⊥
    sized b = b (record { count = n; sized = z })

    module _ {s : State} (o : Holds w s) (pairs : ℕ) (e : pairs ≡ length (part_off k s)) where
      pub no_nodes : n < nodes_for pairs → Cut k w w v v NoRoom
      no_nodes l = inr (sized, inr ((λ b. b (backward w s o)), inl (record { state = s; holds = o; is = record { count = n; sized = z; lacks = subst (λ (m : ℕ). n < nodes_for m) e l } }, (refl, refl, refl))))

      module _ (room : nodes_for pairs ≤ n) where
        pub upper : Upper k s v pairs n
        upper = record { sized = z; pairs_are = e; room = room }

        pub cut_done : {w' v' : List ℕ} → Holds w' (cut_off k s) → v' ≡ words_of (loaded_with s.mark n (part_off k s)) → Cut k w w' v v' Done
        cut_done h f =
            inr (
              sized,
              inr (
                (λ b. b (backward w s o)),
                inr (
                  (λ x. let y = in_state (λ (t : State). Exceeds (part_off k t) v) o x in omega (arith, y.lacks, one_count y.sized z, ap nodes_for e, room)),
                  record { state = s; holds = o; count = n; sized = z; room = subst (λ (m : ℕ). nodes_for m ≤ n) e room; left = h.words; moved = f; said = refl },
                ),
              ),
            )
