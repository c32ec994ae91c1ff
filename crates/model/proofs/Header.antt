-- What the header of words that hold a state says: its words, and the mark in two of them.
-- Assumes nothing.
use Prim.Native.Nat.{ℕ, ◌<◌}
use mathlib.Core.Path.{◌≡◌, refl, ap, ap₂, ◌∙◌}
use mathlib.Core.List.{List}
use lib.Dec.{lit<}
use lib.ListN.{get_or}
use Rattle.model.specs.Layout.{Layout, header_size, header, seen_word, mark_word}
use Rattle.model.specs.Mark.{Mark, unseen, seen, seen_of, mark_of, mark_by, stored_mark}
use Rattle.model.specs.State.{State}
use Rattle.model.specs.Words.{header_of_by}
use Rattle.model.specs.Promise.{HoldsBy}
use Rattle.model.proofs.Held.{words_header_by}

pub mark_by_lem : (m : Mark) → mark_by (seen_of m) (mark_of m) ≡ m
mark_by_lem unseen = refl
mark_by_lem (seen m) = refl

module _ {fm : Layout} {w : List ℕ} {s : State} (o : HoldsBy fm w s) where
  pub header_is : (i : ℕ) → i < header_size → header w i ≡ get_or (header_of_by fm s) i 0
  header_is i l = ap (λ x. header x i) o.words ∙ words_header_by o.sound fm i l

  pub seen_is : header w seen_word ≡ seen_of s.mark
  seen_is = header_is seen_word (lit< tt)

  pub mark_is : header w mark_word ≡ mark_of s.mark
  mark_is = header_is mark_word (lit< tt)

  pub stored_mark_is : stored_mark w ≡ s.mark
  stored_mark_is = ap₂ mark_by seen_is mark_is ∙ mark_by_lem s.mark
