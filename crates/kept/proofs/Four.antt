-- A refused step, on the words.
-- Assumes nothing.
use Rattle.std.proofs.Common.{◌≡◌, ℕ, refl, subst, List, Option, Result, Err}
use Rattle.model.specs.declared.Picked.{Picked}
use Rattle.model.specs.declared.Refused.{Refused}
use Rattle.model.specs.declared.Refused.TheVariants.{NoRoom, BadArena, BadRange, BadOrder, BadSize, BadImage, StaleCursor, NotRising, Spent, Older}
use Rattle.model.specs.Answer.{said_picked}
use Rattle.model.specs.Cursor.{Cursor}
use Rattle.kept.specs.Kept.{cursor_by, step_words, Steps}

-- a refused step leaves the words
step_kept : (e : Refused) (c : Cursor) (u : List ℕ) → u ≡ step_words (said_picked (Err e)) c u
step_kept NoRoom c u = refl
step_kept BadArena c u = refl
step_kept BadRange c u = refl
step_kept BadOrder c u = refl
step_kept BadSize c u = refl
step_kept BadImage c u = refl
step_kept StaleCursor c u = refl
step_kept NotRising c u = refl
step_kept Spent c u = refl
step_kept Older c u = refl

-- the refused step of a cursor d that was read from the words u
pub step_refused : (P : Cursor → Cursor → Picked → Type 0) (u : List ℕ) (d c : Cursor) → d ≡ cursor_by u → (f : Result (Option (ℕ × ℕ)) Refused) (r : Refused) → f ≡ Err r → P d c (said_picked f) → Steps P u u (said_picked (Err r))
step_refused P u d c e f r q x =
    record { cursor = c; given = subst (λ (b : Cursor). P b c (said_picked (Err r))) e (subst (λ (g : Result (Option (ℕ × ℕ)) Refused). P d c (said_picked g)) q x); written = step_kept r c u }
