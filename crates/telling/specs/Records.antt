-- Records read and handed on in turn.
-- Assumes nothing.
use Rattle.std.specs.Prelude.{ℕ, ◌≡◌, ◌+◌, ◌<◌, ◌≤◌, List, length}

-- the bytes of a record
abbrev pub record_bytes : ℕ
record_bytes = 24

-- so many are read at most
abbrev pub turns : ℕ
turns = 1000000000000000

-- from the source s and the taker f, with i records handed on, to t and g: only the last record is short, and it lies where the input ends
pub data Handed {S F : Type 0} (reads : S → S → List ℕ → Type 0) (ends : S → Type 0) (takes : F → List ℕ → F → Type 0) (t : S) (g : F) : ℕ → S → F → Type 0 where
  last : {i : ℕ} {s : S} {f : F} (b : List ℕ) → i < turns → length b < record_bytes → reads s t b → ends t → takes f b g → Handed reads ends takes t g i s f
  spent : {i : ℕ} {s : S} {f : F} → turns ≤ i → t ≡ s → g ≡ f → Handed reads ends takes t g i s f
  one_more : {i : ℕ} {s : S} {f : F} (b : List ℕ) (u : S) (h : F) → i < turns → length b ≡ record_bytes → reads s u b → takes f b h → Handed reads ends takes t g (i + 1) u h → Handed reads ends takes t g i s f
