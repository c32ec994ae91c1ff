-- What a record asks for, and what is mixed in after it.
-- Assumes nothing.
use Rattle.std.specs.Prelude.{ℕ, zero, suc, ◌/◌, ◌%◌, ◌≡◌, List, replicate}
use Rattle.model.specs.declared.Answer.{Answer}
use Rattle.model.specs.declared.Listed.{Listed}
use Rattle.model.specs.declared.Range.{Range}
use Rattle.model.specs.declared.SearchBound.{SearchBound}
use Rattle.model.specs.declared.SearchBound.TheVariants.{Included, Excluded, AllIncluded, AllExcluded}
use Rattle.model.specs.State.{order}
use Rattle.model.specs.Promise.{Call, Format, Listing}
use Rattle.batch.specs.Orders.{order_of}
use Rattle.telling.specs.Numbers.{mix_all}
use Rattle.replay.specs.declared.Record.{Record}
use Rattle.replay.specs.declared.Record.TheVariants as what

abbrev pub read_bound : ℕ → ℕ → SearchBound
read_bound zero key = AllIncluded
read_bound (suc zero) key = Included key
read_bound (suc (suc zero)) key = Excluded key
read_bound (suc (suc (suc kind))) key = AllExcluded

abbrev pub bound_kind : SearchBound → ℕ
bound_kind AllIncluded = 0
bound_kind (Included k) = 1
bound_kind (Excluded k) = 2
bound_kind AllExcluded = 3

-- 0 where there is none
abbrev pub bound_key : SearchBound → ℕ
bound_key (Included k) = k
bound_key (Excluded k) = k
bound_key AllIncluded = 0
bound_key AllExcluded = 0

-- the kinds of both bounds are in the code's lowest four bits
abbrev pub read_range : ℕ → ℕ → ℕ → Range
read_range code k v = record { start = read_bound (code / 4 % 4) k; end = read_bound (code % 4) v }

-- room for eight pairs, and a word
abbrev pub output : List ℕ
output = replicate 17 9

-- what the output holds after a listing of the range q is mixed in
pub record ListingMixed (q : Range) (mix : ℕ) (w : List ℕ) (r : ℕ) : Type 0 where
  pub answer : Listed
  pub left : List ℕ
  pub listed : Listing q w w output left answer
  pub mixes : r ≡ mix_all mix left

abbrev pub format_code : ℕ
format_code = 256

abbrev pub tell_code : ℕ
tell_code = 2048

-- without the lowest four bits
abbrev pub listing_code : ℕ
listing_code = 32

abbrev pub fork_code : ℕ
fork_code = 64

-- what a record's three words w say
abbrev pub Says : (ℕ × ℕ × ℕ) → Record → Type 0
Says w what.Format = w.0 ≡ format_code
Says w what.Tell = w.0 ≡ tell_code
Says w (what.Listing q) = (w.0 / 16 ≡ listing_code) × (q ≡ read_range w.0 w.1 w.2)
Says w (what.Fork q) = (w.0 / 16 ≡ fork_code) × (q ≡ read_range w.0 w.1 w.2)
Says w (what.Order code k v) = (w ≡ (code, k, v)) × (w.0 ≡ format_code → ⊥) × (w.0 ≡ tell_code → ⊥) × (w.0 / 16 ≡ listing_code → ⊥) × (w.0 / 16 ≡ fork_code → ⊥)

-- a record's three words, the mix before it and r after it, the words w before and w' after: they are mixed in where they may have changed
pub data Replays (code k v mix : ℕ) (w w' : List ℕ) (r : ℕ) : Type 0 where
  format_record : (x : Answer) → code ≡ format_code → Format w w' x → r ≡ mix_all mix w' → Replays code k v mix w w' r
  tell_record : code ≡ tell_code → w' ≡ w → r ≡ mix → Replays code k v mix w w' r
  list_record : code / 16 ≡ listing_code → w' ≡ w → ListingMixed (read_range code k v) mix w r → Replays code k v mix w w' r
  fork_record : code / 16 ≡ fork_code → w' ≡ w → r ≡ mix → Replays code k v mix w w' r
  order_record : (x : Answer) → (code ≡ format_code → ⊥) → (code ≡ tell_code → ⊥) → (code / 16 ≡ listing_code → ⊥) → (code / 16 ≡ fork_code → ⊥) → Call (order (order_of code k v)) w w' x → r ≡ mix_all mix w'
      → Replays code k v mix w w' r
