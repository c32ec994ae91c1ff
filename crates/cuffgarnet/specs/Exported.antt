-- What the exported calls hand out in plain words: an answer's number, its second word, and a range asked for by kinds of bound.
-- Assumes nothing.
use Rattle.std.specs.Prelude.{ℕ, zero, suc, ◌≡◌, Bool, false, cond, List, [], ◌∷◌, eqb, Option, Some, None, Result, Err}
use Rattle.model.specs.declared.Answer.{Answer}
use Rattle.model.specs.declared.Listed.{Listed}
use Rattle.model.specs.declared.Counted.{Counted}
use Rattle.model.specs.declared.Picked.{Picked}
use Rattle.model.specs.declared.Range.{Range}
use Rattle.model.specs.declared.SearchBound.{SearchBound}
use Rattle.model.specs.declared.SearchBound.TheVariants.{Included, Excluded, AllIncluded}
use Rattle.model.specs.declared.Refused.{Refused}
use Rattle.model.specs.Answer.{numbers_of, refused}
use Rattle.model.specs.Promise.{Ends, bad_arena, Listing, Count}
use Rattle.model.specs.Public as promise
use Rattle.model.specs.Public.{Promised}
pub use Rattle.kept.specs.Kept.{no_kind}
use Rattle.kept.specs.Kept.{Making, NoBound}

-- the number returned is that of an answer that the promise allows
pub record Numbered (allowed : Answer → Type 0) (number : ℕ) : Type 0 where
  pub answer : Answer
  pub given : allowed answer
  pub number_is : number ≡ (numbers_of answer).number

-- and the second word is written out
pub record Worded (allowed : Answer → Type 0) (number second : ℕ) : Type 0 where
  pub answer : Answer
  pub given : allowed answer
  pub number_is : number ≡ (numbers_of answer).number
  pub second_is : second ≡ (numbers_of answer).word

-- of a listing: how many pairs were written, and 1 if more remain, else 0
pub record Told (allowed : Listed → Type 0) (number written more : ℕ) : Type 0 where
  pub listed : Listed
  pub given : allowed listed
  pub number_is : number ≡ (numbers_of listed.answer).number
  pub written_is : written ≡ listed.wrote
  pub more_is : more ≡ cond listed.more 1 0

-- the word that an older image is meant: 1, and no other
abbrev pub meant_by : ℕ → Bool
meant_by older = eqb older 1

-- the kinds of bound: 0 open, 1 included, 2 excluded, and no other
abbrev pub bound_of : ℕ → ℕ → Option SearchBound
bound_of zero key = Some AllIncluded
bound_of (suc zero) key = Some (Included key)
bound_of (suc (suc zero)) key = Some (Excluded key)
bound_of (suc (suc (suc kind))) key = None

-- what is asked of the range between two bounds; a bound of no kind is refused, behind a bad arena, as R says
abbrev pub Spanned : List ℕ → (Range → Type 0) → (Answer → Type 0) → Option SearchBound → Option SearchBound → Type 0
Spanned w P R (Some s) (Some e) = P (record { start = s; end = e })
Spanned w P R (Some s) None = Ends (bad_arena w ∷ no_kind ∷ []) R ⊥
Spanned w P R None e = Ends (bad_arena w ∷ no_kind ∷ []) R ⊥

-- the answer a is that of a refused range
abbrev pub IsRefusal : Result Range Refused → Answer → Type 0
IsRefusal r a = (why : Refused) × (r ≡ Err why) × (a ≡ refused why)

-- a listing from one bound to another: the arena w, the output o before and o' after, the answer r
abbrev pub Between : Option SearchBound → Option SearchBound → List ℕ → List ℕ → List ℕ → Listed → Type 0
Between s e w o o' r = Spanned w (λ q. Listing q w w o o' r) (λ a. (o' ≡ o) × (r ≡ record { answer = a; wrote = 0; more = false })) s e

-- how many pairs lie between two bounds
abbrev pub CountBetween : Option SearchBound → Option SearchBound → List ℕ → Counted → Type 0
CountBetween s e w r = Spanned w (λ q. Count q w w r) (λ a. r ≡ record { answer = a; number = 0 }) s e

-- a cursor sought by a start bound: the arena w, the cursor's words u before and u' after
abbrev pub SeekBy : Option SearchBound → ℕ → (w u u' : List ℕ) → Picked → Type 0
SeekBy (Some b) n w u u' r = Making (Promised (promise.seek n b) w w) u u' r
SeekBy None n w u u' r = NoBound n w u u' r

-- a number is written out
pub record Summed (allowed : Counted → Type 0) (number second : ℕ) : Type 0 where
  pub counted : Counted
  pub given : allowed counted
  pub number_is : number ≡ (numbers_of counted.answer).number
  pub second_is : second ≡ counted.number

-- a pair is written out
pub record Paired (allowed : Picked → Type 0) (number key value : ℕ) : Type 0 where
  pub picked : Picked
  pub given : allowed picked
  pub number_is : number ≡ (numbers_of picked.answer).number
  pub key_is : key ≡ picked.key
  pub value_is : value ≡ (numbers_of picked.answer).word
