-- Any results that a promise about four words allows are one and the same.
-- Assumes nothing.
use Rattle.std.proofs.Common.{ℕ, ◌≡◌, sym, ap, ap₂, ◌∙◌, List, [], ◌∷◌, length}
use Rattle.model.specs.declared.Picked.{Picked}
use Rattle.model.specs.Cursor.{Cursor, past}
use Rattle.model.specs.Promise.{bad_size, bad_arena}
use Rattle.model.proofs.Unique.{one_end, refused}
use Rattle.kept.specs.Kept.{cursor_by, cursor_words, stand_words, step_words, InFour, Makes, Making, Steps, Stepping, no_kind, NoBound}

-- refused before everything, the same words stay and the same is said
one_four : (u : List ℕ) {u₁ u₂ : List ℕ} {r₁ r₂ : Picked} {D E : Type 0} → (D → E → (u₁ ≡ u₂) × (r₁ ≡ r₂)) → InFour u u₁ r₁ D → InFour u u₂ r₂ E → (u₁ ≡ u₂) × (r₁ ≡ r₂)
one_four u f = one_end (bad_size (length u ≡ 4 → ⊥) ∷ []) (refused (λ a. record { answer = a; key = 0 }) u) f

-- one cursor, and what is said with it
abbrev pub One : (Cursor → Picked → Type 0) → Type 0
One P = (c d : Cursor) (r s : Picked) → P c r → P d s → (c ≡ d) × (r ≡ s)

pub one_making : (P : Cursor → Picked → Type 0) (u : List ℕ) {u₁ u₂ : List ℕ} {r₁ r₂ : Picked} → One P → Making P u u₁ r₁ → Making P u u₂ r₂ → (u₁ ≡ u₂) × (r₁ ≡ r₂)
one_making P u {u₁} {u₂} {r₁} {r₂} o = one_four u made
  where
    made : Makes P u₁ r₁ → Makes P u₂ r₂ → (u₁ ≡ u₂) × (r₁ ≡ r₂)
    made x y = let e = o _ _ _ _ x.given y.given in (x.written ∙ ap cursor_words e.0 ∙ sym y.written, e.1)

pub one_stepping : (P : Cursor → Cursor → Picked → Type 0) (u : List ℕ) {u₁ u₂ : List ℕ} {r₁ r₂ : Picked} → One (P (cursor_by u)) → Stepping P u u₁ r₁ → Stepping P u u₂ r₂ → (u₁ ≡ u₂) × (r₁ ≡ r₂)
one_stepping P u {u₁} {u₂} {r₁} {r₂} o = one_four u stepped
  where
    stepped : Steps P u u₁ r₁ → Steps P u u₂ r₂ → (u₁ ≡ u₂) × (r₁ ≡ r₂)
    stepped x y = let e = o _ _ _ _ x.given y.given in (x.written ∙ ap₂ (λ r c. step_words r c u) e.1 e.0 ∙ sym y.written, e.1)

pub one_no_bound : (n : ℕ) (w u : List ℕ) {u₁ u₂ : List ℕ} {r₁ r₂ : Picked} → NoBound n w u u₁ r₁ → NoBound n w u u₂ r₂ → (u₁ ≡ u₂) × (r₁ ≡ r₂)
one_no_bound n w u = one_four u (one_end (bad_arena w ∷ no_kind ∷ []) (refused (λ a. record { answer = a; key = 0 }) (stand_words n past)) (λ x y. absurd x))
