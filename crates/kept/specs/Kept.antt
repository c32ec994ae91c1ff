-- A cursor as four words, and what a call leaves in them.
-- Assumes nothing.
use Rattle.std.specs.Prelude.{ℕ, zero, suc, ◌≡◌, cond, List, [], ◌∷◌, ltb, length, get_or, Result, Ok, Err}
use Rattle.model.specs.declared.Answer.TheVariants.{BadRange}
use Rattle.model.specs.declared.Refused.{Refused}
use Rattle.model.specs.declared.Refused.TheVariants.{BadSize}
use Rattle.model.specs.declared.Picked.{Picked}
use Rattle.model.specs.Layout.{none}
use Rattle.model.specs.Answer.{numbers_of}
use Rattle.model.specs.Cursor.{Stand, before, on, past, Cursor}
use Rattle.cursor.specs.declared.Cursor as code
use Rattle.cursor.specs.Cursors.{cursor_of}
use Rattle.model.specs.Promise.{Refusal, Ends, bad_size, bad_arena}

-- where it stands: 0 before the first pair, 1 on a pair, 2 past the last. Any other number is no end, and such a place holds no pair
abbrev pub stand_by : ℕ → ℕ → ℕ → Stand
stand_by zero m i = before
stand_by (suc zero) m i = on (record { node = m; place = i })
stand_by (suc (suc zero)) m i = past
stand_by (suc (suc (suc k))) m i = on (record { node = none; place = 0 })

abbrev pub cursor_by : List ℕ → Cursor
cursor_by u = record { changes = get_or u 0 0; stand = stand_by (get_or u 1 0) (get_or u 2 0) (get_or u 3 0) }

-- the cursor of the words, if they are four
abbrev pub ReadBy : List ℕ → Result code.Cursor Refused → Type 0
ReadBy u (Ok c) = (length u ≡ 4) × (cursor_of c ≡ cursor_by u)
ReadBy u (Err r) = (length u ≡ 4 → ⊥) × (r ≡ BadSize)

-- at an end node and place are written 0
abbrev pub stand_words : ℕ → Stand → List ℕ
stand_words n before = n ∷ 0 ∷ 0 ∷ 0 ∷ []
stand_words n (on p) = n ∷ 1 ∷ p.node ∷ p.place ∷ []
stand_words n past = n ∷ 2 ∷ 0 ∷ 0 ∷ []

abbrev pub cursor_words : Cursor → List ℕ
cursor_words c = stand_words c.changes c.stand

-- a slice u of another length is refused before everything, and stays
abbrev pub InFour : (u u' : List ℕ) → Picked → Type 0 → Type 0
InFour u u' r done = Ends (bad_size (length u ≡ 4 → ⊥) ∷ []) (λ a. (u' ≡ u) × (r ≡ record { answer = a; key = 0 })) done

-- first, last and seek write the cursor that they hand back, refused or not
pub record Makes (P : Cursor → Picked → Type 0) (u' : List ℕ) (r : Picked) : Type 0 where
  pub cursor : Cursor
  pub given : P cursor r
  pub written : u' ≡ cursor_words cursor

abbrev pub Making : (Cursor → Picked → Type 0) → (u u' : List ℕ) → Picked → Type 0
Making P u u' r = InFour u u' r (Makes P u' r)

-- a refused step leaves the words
abbrev pub step_words : Picked → Cursor → List ℕ → List ℕ
step_words r c u = cond (ltb 2 (numbers_of r.answer).number) u (cursor_words c)

pub record Steps (P : Cursor → Cursor → Picked → Type 0) (u u' : List ℕ) (r : Picked) : Type 0 where
  pub cursor : Cursor
  pub given : P (cursor_by u) cursor r
  pub written : u' ≡ step_words r cursor u

abbrev pub Stepping : (Cursor → Cursor → Picked → Type 0) → (u u' : List ℕ) → Picked → Type 0
Stepping P u u' r = InFour u u' r (Steps P u u' r)

-- a seek with a bound of no kind
abbrev pub no_kind : Refusal
no_kind = record { answer = BadRange; when = (⊥ → ⊥) }

abbrev pub NoBound : ℕ → List ℕ → (u u' : List ℕ) → Picked → Type 0
NoBound n w u u' r = InFour u u' r (Ends (bad_arena w ∷ no_kind ∷ []) (λ a. (u' ≡ stand_words n past) × (r ≡ record { answer = a; key = 0 })) ⊥)
