-- What is to be proved of a call, and how that of a call on a state is met.
-- Assumes nothing.
use Prim.Native.Nat.{ℕ}
use mathlib.Core.Path.{◌≡◌, refl, sym, ap, ◌∙◌}
use mathlib.Core.Bool.{Bool, true, false, ◌&&◌}
use mathlib.Core.Logic.{inl, inr}
use mathlib.Core.List.{List, [], ◌∷◌}
use lib.ListN.{length}
use Rattle.model.specs.declared.Answer.{Answer}
use Rattle.model.specs.Layout.{base}
use Rattle.model.specs.State.{State, Reply}
use Rattle.model.specs.Words.{words_of}
use Rattle.model.specs.Sound.{Sound}
use Rattle.model.specs.WellFormed.{WellFormed}
use Rattle.model.specs.Promise as model
use Rattle.model.specs.Promise.{Refusal, Ends, bad_arena, Holds, Called}
use Rattle.model.specs.Public.{alone}
use Rattle.model.proofs.Held.{words_long}
use Rattle.model.proofs.Backward.{backward}
use Rattle.model.proofs.Unique.{one_call}
use Rattle.demands.specs.Plain.{Plain, Made, Raises}
use Rattle.demands.specs.Stored.{held}
use Rattle.demands.specs.Call.{Speech, in_answer, Call, given, Refused, Did, ByMap}
use Rattle.demands.proofs.Reading.{plain_of, held_is}
use Rattle.demands.proofs.Steps.{Meets}

-- each refusal is said as one
abbrev pub all_refused : {A : Type 0} → Speech A → List Refusal → Bool
all_refused s [] = true
all_refused s (x ∷ xs) = s.refused (s.refuse x.answer) && all_refused s xs

pub record Lawful (c : Call) : Type 0 where
  pub by_map : (w w' : List ℕ) (l : c.promise.Lent) (r : c.promise.Said) → c.promise.ends w w' l r → ByMap c w w' l r
  pub one_end : (w w₁ w₂ : List ℕ) (l₁ l₂ : c.promise.Lent) (r₁ r₂ : c.promise.Said) → c.promise.ends w w₁ l₁ r₁ → c.promise.ends w w₂ l₂ r₂ → (w₁ ≡ w₂) × (l₁ ≡ l₂) × (r₁ ≡ r₂)
  pub refusing : (w : List ℕ) → all_refused c.speech (c.refusals w) ≡ true
  pub raises : (rooms : List Bool) (p : Plain) → Raises (given c p).mark (c.does rooms (given c p)).spent (c.does rooms (given c p)).plain.mark

-- ---- words that hold a state

-- the words of a sound state hold it
pub kept_words : {w : List ℕ} {s : State} → Sound s → w ≡ words_of s → Holds w s
kept_words o e = record { sound = o; words = e }

pub long_is : {w : List ℕ} {s : State} → Holds w s → length w ≡ base s.size
long_is h = ap length h.words ∙ words_long h.sound

-- what a call that leaves the words of the state t has done
pub record Left (w w' : List ℕ) (p : Plain) : Type 0 where
  pub was_formed : WellFormed w
  pub formed : WellFormed w'
  pub long_same : length w' ≡ length w
  pub holds : held w' ≡ p

pub left_of : {w w' : List ℕ} {s t : State} {p : Plain} → Holds w s → Sound t → w' ≡ words_of t → t.size ≡ s.size → plain_of t ≡ p → Left w w' p
left_of {w} {w'} {s} {t} h o e z q =
    let g = kept_words o e in
    record { was_formed = backward w s h; formed = backward w' t g; long_same = long_is g ∙ ap base z ∙ sym (long_is h); holds = held_is g ∙ q }

-- the same, of a call on a state that is lent nothing else
abbrev pub on_state : (e : List ℕ → List ℕ → Answer → Type 0) → (List ℕ → List Refusal) → (Plain → Made Answer) → (List ℕ → List ℕ → Type 0) → Call
on_state e rs m lv = record { promise = alone e; speech = in_answer; refusals = rs; rooms = λ r l. []; does = λ rooms p. m p; leaves = λ w w' l. lv w w'; begins = false }

pub called_did : {f : State → Reply} (e : List ℕ → List ℕ → Answer → Type 0) (rs : List ℕ → List Refusal) (m : Plain → Made Answer) (lv : List ℕ → List ℕ → Type 0) {w w' : List ℕ} {r : Answer}
    → (x : Called f w w' r) → Meets x.state (f x.state) (m (plain_of x.state)) → lv w w' → Did (on_state e rs m lv) w w' tt r
called_did {f} e rs m lv {w} {w'} {r} x y v =
    let s = x.state in
    let h = sym (held_is x.holds) in
    let g : Left w w' (m (held w)).plain = left_of x.holds y.sound x.left y.size_is (y.plain_is ∙ ap (λ p. (m p).plain) h) in
    record {
      was_formed = λ b. g.was_formed;
      formed = g.formed;
      long_same = g.long_same;
      says = x.said ∙ y.answered ∙ ap (λ p. (m p).said) h;
      holds = g.holds;
      leaves = v;
      refused_same = λ b. record { arena = x.left ∙ ap words_of (y.still (rw x.said at b)) ∙ sym x.holds.words; lent = refl };
    }

-- ---- refusals

-- none of them holds
abbrev pub NoneOf : List Refusal → Type 0
NoneOf [] = Unit {0}
NoneOf (x ∷ xs) = (x.when → ⊥) × NoneOf xs

-- the same refusals, said of more
pub ends_map : {R Q : Answer → Type 0} {D E : Type 0} (rs : List Refusal) → ((a : Answer) → R a → Q a) → (NoneOf rs → D → E) → Ends rs R D → Ends rs Q E
ends_map [] f g d = g tt d
ends_map (x ∷ rs) f g (inl y) = inl (y.0, f x.answer y.1)
ends_map (x ∷ rs) f g (inr y) = inr (y.0, ends_map rs f (λ n. g (y.0, n)) y.1)

pub refused_alone : (c : Call) {w w' : List ℕ} {l : c.promise.Lent} {r : c.promise.Said} → l ≡ c.promise.lent → (a : Answer) → (w' ≡ w) × (r ≡ c.speech.refuse a) → Refused c w w' l r a
refused_alone c e a x = record { same = record { arena = x.0; lent = e }; says = x.1 }

pub refused_beside : (c : Call) {w w' : List ℕ} {l : c.promise.Lent} {r : c.promise.Said} (a : Answer) → (w' ≡ w) × (l ≡ c.promise.lent) × (r ≡ c.speech.refuse a) → Refused c w w' l r a
refused_beside c a x = record { same = record { arena = x.0; lent = x.1 }; says = x.2 }

-- two ends of one where nothing else is lent
pub one_alone : {w₁ w₂ : List ℕ} {r₁ r₂ : Answer} → (w₁ ≡ w₂) × (r₁ ≡ r₂) → (w₁ ≡ w₂) × (◌≡◌ {A = Unit {0}} tt tt) × (r₁ ≡ r₂)
one_alone e = (e.0, refl, e.1)

-- ---- a call on a state: refused as BadArena, then by what the map refuses

module _ (f : State → Reply) (rs : List ℕ → List Refusal) (m : Plain → Made Answer) (lv : List ℕ → List ℕ → Type 0) where
  abbrev pub state_call : Call
  state_call = on_state (model.Call f) (λ w. bad_arena w ∷ rs w) m lv

  pub state_lawful : ((w w' : List ℕ) (r : Answer) → Called f w w' r → Ends (rs w) (Refused state_call w w' tt r) (Did state_call w w' tt r)) → ((w : List ℕ) → all_refused in_answer (rs w) ≡ true)
      → ((p : Plain) → Raises p.mark (m p).spent (m p).plain.mark) → Lawful state_call
  state_lawful d a v = record {
    by_map = λ w w' l r. ends_map (bad_arena w ∷ []) (refused_alone state_call refl) (λ n x. d w w' r x);
    one_end = λ w w₁ w₂ l₁ l₂ r₁ r₂ x y. one_alone (one_call f w x y);
    refusing = a;
    raises = λ rooms p. v p;
  }

  -- a reply that leaves the state is a refusal
  pub reply_refused : {w w' : List ℕ} {r a : Answer} (x : Called f w w' r) → f x.state ≡ record { answer = a; state = x.state } → Refused state_call w w' tt r a
  reply_refused x e = record { same = record { arena = x.left ∙ ap (λ (d : Reply). words_of d.state) e ∙ sym x.holds.words; lent = refl }; says = x.said ∙ ap (λ (d : Reply). d.answer) e }
