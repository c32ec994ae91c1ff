-- How a load ends: each refusal under its condition, or done.
-- Assumes nothing.
use Prim.Native.Nat.{ℕ, ◌/◌, ◌%◌, ◌≤◌, ◌<◌}
use native.Mathlib.Nat.{div-add-mod'}
use native.Mathlib.Omega.{arith}
use mathlib.Core.Path.{◌≡◌, refl, ap}
use mathlib.Core.Logic.{inl, inr}
use mathlib.Core.List.{List}
use lib.ListN.{length}
use Rattle.model.specs.declared.Answer.TheVariants.{Done, NoRoom, NotRising}
use Rattle.model.specs.Layout.{Sized}
use Rattle.model.specs.Map.{Rising}
use Rattle.model.specs.State.{formatted}
use Rattle.model.specs.Load.{pairs_of, Even, loaded}
use Rattle.model.specs.Room.{nodes_for}
use Rattle.model.specs.Words.{words_of}
use Rattle.model.specs.Promise.{Loadable, Exceeds, Load}
use Rattle.model.proofs.Unique.{one_count}
use Rattle.loading.proofs.Runs.{pairs_half}
use Rattle.appending.specs.Runs.{Loads}

abbrev pub even_of : (n : ℕ) → n % 2 ≡ 0 → Even n
even_of n e = record { half = n / 2; is = omega (arith, div-add-mod' n 2, e) }

module _ (run w : List ℕ) (n : ℕ) (v : length run % 2 ≡ 0) (s : Sized n (length w)) where
  loadable : Loadable run w
  loadable = record { even = even_of (length run) v; some_count = record { count = n; sized = s } }

  pub falls : (Rising (pairs_of run) → ⊥) → Load run w w NotRising
  falls f = inr ((λ b. b loadable), inl (f, (refl, refl)))

  -- the run's words are counted, its pairs are meant
  needs : nodes_for (length (pairs_of run)) ≡ nodes_for (length run / 2)
  needs = ap nodes_for (pairs_half (length run / 2) run (even_of (length run) v).is)

  module _ (r : Rising (pairs_of run)) where
    pub few : n < nodes_for (length run / 2) → Load run w w NoRoom
    few l = inr ((λ b. b loadable), inr ((λ b. b r), inl (record { count = n; sized = s; lacks = omega (arith, needs) }, (refl, refl))))

    module _ (room : nodes_for (length run / 2) ≤ n) where
      pub loads : {w' : List ℕ} → w' ≡ words_of (formatted n) → Loads n w' run
      loads e = record { words = e; some = s.some; few = s.few; even = even_of (length run) v; rising = r; room = omega (arith, needs) }

      pub done : {w' : List ℕ} → w' ≡ words_of (loaded n (pairs_of run)) → Load run w w' Done
      done e =
          inr (
            (λ b. b loadable),
            inr (
              (λ b. b r),
              inr (
                (λ (x : Exceeds (pairs_of run) w). omega (arith, x.lacks, one_count x.sized s, needs)),
                record { count = n; sized = s; rising = r; room = omega (arith, needs); left = e; said = refl },
              ),
            ),
          )
