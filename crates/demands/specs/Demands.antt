-- The demands on the whole index, each as one statement over every public call: proved in proofs/ as Every.as_the_map, Every.any_history, Every.one_end;
-- and document 02's of joins, proved as Joins.cut_then_join, Joins.three_in_order.
-- Assumes nothing.
use Rattle.std.specs.Prelude.{ℕ, ◌*◌, ◌≤◌, ◌≡◌, true, false, List, [], ◌∷◌, length}
use Rattle.model.specs.declared.Answer.{Answer}
use Rattle.model.specs.declared.Answer.TheVariants.{Done}
use Rattle.model.specs.Layout.{base, header, count_word}
use Rattle.model.specs.Mark.{stored_mark}
use Rattle.model.specs.WellFormed.{WellFormed}
use Rattle.model.specs.Public as promise
use Rattle.model.specs.Public.{Promised}
use Rattle.demands.specs.Plain.{bringing}
use Rattle.demands.specs.Stored.{stored, held}
use Rattle.demands.specs.Call.{Call, Unchanged, ByMap}
use Rattle.demands.specs.Public.{Public}
use Rattle.demands.specs.History.{Turn, Run, Standing, after, after_all, Kept, NotLower}

-- demand 2: whatever a public call ends in is what the ordered map answers, room aside; BadRange exactly where its range panics
abbrev pub AsTheMap : Type 1
AsTheMap = (c : Call) → Public c → (w w' : List ℕ) (l : c.promise.Lent) (r : c.promise.Said) → Promised c.promise w w' l r → ByMap c w w' l r

-- demand 3
pub record AnyHistory : Type 1 where
  -- a call that begins a history, and is not refused, leaves the list and the mark that it makes, whatever words it found
  pub begun : (n : ℕ) (t : Turn) (s : Standing) (w w' : List ℕ) → t.call.begins ≡ true → t.call.speech.refused t.said ≡ false → length w ≡ base n → Run (t ∷ []) w w' → Kept n (after t s) w'
  -- and an arena that is found well-formed begins one with what it holds
  pub found : (w : List ℕ) → WellFormed w → Kept (header w count_word) (record { plain = held w; spent = bringing (stored_mark w) }) w
  -- after any calls the arena is well-formed and holds what the accepted ones make of the plain list with its mark
  pub kept : (n : ℕ) (s : Standing) (ts : List Turn) (w w' : List ℕ) → Kept n s w → Run ts w w' → Kept n (after_all ts s) w'
  -- a refused call changes no lent word
  pub refused_same : (c : Call) → Public c → (w w' : List ℕ) (l : c.promise.Lent) (r : c.promise.Said) → Promised c.promise w w' l r → c.speech.refused r ≡ true → Unchanged c w w' l
  -- no call lowers the mark, but one that begins a new history
  pub not_lowered : (c : Call) → Public c → c.begins ≡ false → (w w' : List ℕ) (l : c.promise.Lent) (r : c.promise.Said) → Promised c.promise w w' l r → NotLower w w'

-- any two ends of one public call from the same words are the same: the arena, the other lent slices, the answer
abbrev pub OneEnd : Type 1
OneEnd = (c : Call) → Public c → (w w₁ w₂ : List ℕ) (l₁ l₂ : c.promise.Lent) (r₁ r₂ : c.promise.Said) → Promised c.promise w w₁ l₁ r₁ → Promised c.promise w w₂ l₂ r₂ → (w₁ ≡ w₂) × (l₁ ≡ l₂) × (r₁ ≡ r₂)

-- ---- joins

-- an accepted cut, then a join of the two with a third slice that has two words for each old pair: it is not refused, and brings the pairs and the mark back.
-- (Whatever the key: either side may be empty)
abbrev pub CutThenJoin : Type 0
CutThenJoin = (k : ℕ) (w w₁ w₂ v v₁ v₂ o o₂ : List ℕ) (r : Answer) → Promised (promise.cut k v) w w₁ v₁ Done → 2 * length (stored w) ≤ length o → Promised (promise.join v₁ o) w₁ w₂ (v₂, o₂) r → (r ≡ Done) × (held w₂ ≡ held w)

-- an accepted join of v into w leaves the words w' there, with some third slice
pub record JoinsTo (w v w' : List ℕ) : Type 0 where
  pub third : List ℕ
  pub second_after : List ℕ
  pub third_after : List ℕ
  pub done : Promised (promise.join v third) w w' (second_after, third_after) Done

-- three arenas kept in their order hold the same pairs, whichever neighbours are joined first, and the same mark
abbrev pub ThreeInOrder : Type 0
ThreeInOrder = (a b c ab ab-c bc a-bc : List ℕ) → JoinsTo a b ab → JoinsTo ab c ab-c → JoinsTo b c bc → JoinsTo a bc a-bc → held ab-c ≡ held a-bc
