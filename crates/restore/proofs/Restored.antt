-- The words that a restore leaves: the image's, with the mark's two words raised.
-- Assumes nothing.
use Prim.Native.Nat.{ℕ, max}
use native.Mathlib.Omega.{arith}
use mathlib.Core.Path.{◌≡◌, refl, sym, ◌∙◌}
use mathlib.Core.Logic.{inr}
use mathlib.Core.Bool.{Bool, true, false}
use mathlib.Core.List.{List}
use lib.ListN.{length, get_or, set}
use Rattle.model.specs.Layout.{header, seen_word, mark_word, arena_by}
use Rattle.model.specs.Mark.{Mark, unseen, seen, higher, lower, seen_of, mark_of, stored_mark}
use Rattle.model.specs.State.{State, restored}
use Rattle.model.specs.Words.{words_of_by, words_of}
use Rattle.model.specs.WellFormed.{WellFormed}
use Rattle.model.specs.Promise.{Holds, Restored, Restore}
use Rattle.model.specs.declared.Answer.{Answer}
use Rattle.model.specs.declared.Answer.TheVariants.{Done}
use Rattle.model.proofs.Decode.{state_of}
use Rattle.model.proofs.Forward.{forward}
use Rattle.model.proofs.Header.{seen_is, mark_is}
use Rattle.restore.specs.Raising.{Raised}

-- ---- the mark's words

pub seen_higher : (m n : Mark) → seen_of (higher m n) ≡ max (seen_of m) (seen_of n)
seen_higher unseen unseen = omega arith
seen_higher unseen (seen b) = omega arith
seen_higher (seen a) unseen = omega arith
seen_higher (seen a) (seen b) = omega arith

pub mark_higher : (m n : Mark) → mark_of (higher m n) ≡ max (mark_of m) (mark_of n)
mark_higher unseen unseen = omega arith
mark_higher unseen (seen b) = omega arith
mark_higher (seen a) unseen = omega arith
mark_higher (seen a) (seen b) = refl

-- a restored state's words are the image's but for those two
pub restored_words : (s i : State) → words_of (restored s i) ≡ set (set (words_of i) seen_word (max (seen_of s.mark) (seen_of i.mark))) mark_word (max (mark_of s.mark) (mark_of i.mark))
unfolding words_of_by arena_by
restored_words s i = rw (← seen_higher s.mark i.mark, ← mark_higher s.mark i.mark) refl

left_words : {w i : List ℕ} {s t : State} → Holds w s → Holds i t → set (set i seen_word (max (get_or w seen_word 0) (get_or i seen_word 0))) mark_word (max (get_or w mark_word 0) (get_or i mark_word 0)) ≡ words_of (restored s t)
left_words {s = s} {t = t} o p = rw (seen_is o, mark_is o, seen_is p, mark_is p, p.words) (sym (restored_words s t))

-- a restore that is done leaves the image's words, but of seen and mark the larger
pub word_for_word : {w w' i : List ℕ} {r : Answer} → Restored w w' i r → w' ≡ set (set i seen_word (max (get_or w seen_word 0) (get_or i seen_word 0))) mark_word (max (get_or w mark_word 0) (get_or i mark_word 0))
word_for_word x = x.left ∙ sym (left_words x.holds x.image_holds)

-- ---- the call

module _ (meant : Bool) (w i : List ℕ) (l : length i ≡ length w) (f : WellFormed w) (g : WellFormed i) where
  -- the mark was raised in x, and the other words were copied
  pub done : ((meant ≡ false) × (lower (stored_mark i) (stored_mark w) ≡ true) → ⊥) → (x w' : List ℕ) → Raised w i x → w' ≡ set (set i seen_word (header x seen_word)) mark_word (header x mark_word) → Restore meant w w' i Done
  done m x w' e d =
      let o = forward w f in
      let p = forward i g in
      inr ((λ n. n l), inr ((λ n. n f), inr ((λ n. n g), inr (m, record { state = state_of w; image = state_of i; holds = o; image_holds = p; left = d ∙ rw (e.seen_is, e.mark_is) (left_words o p); said = refl }))))
