-- What a reserve reads off the header, and the words that it leaves.
-- Assumes nothing.
use Prim.Native.Nat.{ℕ, max}
use native.Mathlib.Omega.{arith}
use mathlib.Core.Path.{◌≡◌, refl, sym, ap, ◌∙◌}
use mathlib.Core.Bool.{true, false}
use mathlib.Core.List.{List}
use borrow.Author.Tests.{leb-false}
use lib.ListN.{set}
use Rattle.model.specs.declared.Answer.TheVariants.{Done, Spent}
use Rattle.model.specs.Layout.{header, seen_word, mark_word, arena_by}
use Rattle.model.specs.Mark.{Mark, unseen, seen, reached, mark_of, stored_mark}
use Rattle.model.specs.State.{State, reserve}
use Rattle.model.specs.Words.{words_of_by, words_of}
use Rattle.model.specs.Promise.{Holds, Does}
use Rattle.model.proofs.Header.{stored_mark_is, mark_is}
use Rattle.model.proofs.Ends.{stays, does_as}
use Rattle.header.specs.Headers.{raised}

-- the state with another mark, in words
marked_words : (s : State) (k : ℕ) → words_of (record { size = s.size; whole = s.whole; free = s.free; mark = seen k }) ≡ set (set (words_of s) mark_word k) seen_word 1
unfolding words_of_by arena_by
marked_words s k = refl

-- a key that the mark has not reached is the larger
above : (k : ℕ) (m : Mark) → false ≡ reached k m → max (mark_of m) k ≡ k
above k unseen e = omega arith
above k (seen m) e = omega (arith, leb-false k m (sym e))

module _ {w : List ℕ} {s : State} (o : Holds w s) (k : ℕ) where
  pub spent_already : true ≡ reached k (stored_mark w) → Does (reserve k s) w Spent
  spent_already e = stays o (rw (sym (e ∙ ap (reached k) (stored_mark_is o)), reserve))

  pub handed_out : false ≡ reached k (stored_mark w) → {w' : List ℕ} → w' ≡ raised k w → Does (reserve k s) w' Done
  handed_out e {w'} d =
      let f = e ∙ ap (reached k) (stored_mark_is o) in
      let m : max (header w mark_word) k ≡ k = ap (λ (x : ℕ). max x k) (mark_is o) ∙ above k s.mark f in
      let l : w' ≡ words_of (record { size = s.size; whole = s.whole; free = s.free; mark = seen k }) = d ∙ rw m (ap (λ (x : List ℕ). set (set x mark_word k) seen_word 1) o.words ∙ sym (marked_words s k)) in
      does_as (rw (sym f, reserve)) (record { left = l; said = refl })
