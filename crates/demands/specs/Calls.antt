-- The public calls, each as one record.
-- Assumes nothing.
use Rattle.std.specs.Prelude.{ℕ, zero, ◌+◌, ◌*◌, ◌<◌, min, ◌≡◌, true, false, Bool, ◌⊎◌, List, [], ◌∷◌, ltb, length, take}
use Rattle.std.proofs.Math.Option.{Option, none}
use Rattle.model.specs.declared.Answer.{Answer}
use Rattle.model.specs.declared.Answer.TheVariants.{Done, NoRoom, BadRange, Spent, BadOrder, StaleCursor}
use Rattle.model.specs.declared.SearchBound.{SearchBound}
use Rattle.model.specs.declared.Range.{Range}
use Rattle.model.specs.declared.Layout.TheVariants.{Format1}
use Rattle.model.specs.Layout.{header, base, count_word, free_word}
use Rattle.model.specs.Tree.{Ctx, Pair}
use Rattle.model.specs.Search.{gap, search}
use Rattle.model.specs.Insert.{needed}
use Rattle.model.specs.Mark.{higher, reached, stored_mark}
use Rattle.model.specs.Map.{look, range, rank as rank_of, nth, picked, Panics}
use Rattle.model.specs.Answer.{numbers_of}
use Rattle.model.specs.State.{State, Order, Kind, putting, getting, deleting, reserving, unknown, kind_of, triples}
use Rattle.model.specs.Load.{pairs_of, last_mark}
use Rattle.model.specs.Plain.{lower, upper}
use Rattle.model.specs.Merge.{merge}
use Rattle.model.specs.WellFormed.{WellFormed}
use Rattle.model.specs.Promise.{Refusal, bad_size, bad_arena_by, bad_arena, bad_image, older, AnyCount, Holds, Fits, room, laid, Loadable, not_rising, no_nodes}
use Rattle.model.specs.Cursor.{Stand, before, past, Cursor}
use Rattle.model.specs.Public as promise
use Rattle.model.specs.Public.{Promise}
use Rattle.walking.specs.Walking.{Stale}
use Rattle.walking.specs.Found.{KeyAt, first_of, last_of, sought_in, next_of, previous_of, LeftOn}
use Rattle.demands.specs.Stored.{stored, held_by, held}
use Rattle.demands.specs.Plain.{empty, bringing, only, put_to, get_from, delete_from, reserve_on, ordered, ordered_all, rooms_by}
use Rattle.demands.specs.Call.{Call, refusal, in_answer, in_listing, in_count, in_pick}

-- ---- refusals, by the words

-- the documentation's panics, and no other range
abbrev pub panics : Range → Refusal
panics q = record { answer = BadRange; when = Panics q }

-- an absent key lacks nodes: its leaf edge needs more than are free
pub record Lacks (k : ℕ) (w : List ℕ) : Type 0 where
  pub state : State
  pub holds : Holds w state
  pub edge : Ctx zero
  pub absent : look k (stored w) ≡ none
  pub found : search k state.whole ≡ gap edge
  pub lacks : header w free_word < needed edge

-- a put of such a key
abbrev pub no_room : ℕ → List ℕ → Refusal
no_room k w = record { answer = NoRoom; when = Lacks k w }

abbrev pub no_room_for : Order → List ℕ → Refusal
no_room_for o w = record { answer = NoRoom; when = (kind_of o.code ≡ putting) × Lacks o.key w }

-- the mark has reached the key
abbrev pub spent : ℕ → List ℕ → Refusal
spent k w = record { answer = Spent; when = reached k (stored_mark w) ≡ true }

-- ---- formatting begins a history with the empty list

abbrev pub format : Call
format = record {
  promise = promise.format;
  speech = in_answer;
  refusals = λ w. bad_size (AnyCount (length w) → ⊥) ∷ [];
  rooms = λ r l. [];
  does = λ rooms p. only Done empty;
  leaves = λ w w' l. Unit {0};
  begins = true;  -- it forgets the mark
}

-- ---- one key

abbrev pub check : Call
check = record {
  promise = promise.check;
  speech = in_answer;
  refusals = λ w. bad_arena w ∷ [];
  rooms = λ r l. [];
  does = λ rooms p. only Done p;
  leaves = λ w w' l. w' ≡ w;
  begins = false;
}

abbrev pub get : (key : ℕ) → Call
get k = record {
  promise = promise.get k;
  speech = in_answer;
  refusals = λ w. bad_arena w ∷ [];
  rooms = λ r l. [];
  does = λ rooms p. get_from k p;
  leaves = λ w w' l. w' ≡ w;
  begins = false;
}

abbrev pub put : (key val : ℕ) → Call
put k v = record {
  promise = promise.put k v;
  speech = in_answer;
  refusals = λ w. bad_arena w ∷ no_room k w ∷ [];
  rooms = λ r l. [];
  does = λ rooms p. put_to true k v p;
  leaves = λ w w' l. Unit {0};
  begins = false;
}

abbrev pub delete : (key : ℕ) → Call
delete k = record {
  promise = promise.delete k;
  speech = in_answer;
  refusals = λ w. bad_arena w ∷ [];
  rooms = λ r l. [];
  does = λ rooms p. delete_from k p;
  leaves = λ w w' l. Unit {0};
  begins = false;
}

abbrev pub reserve : (key : ℕ) → Call
reserve k = record {
  promise = promise.reserve k;
  speech = in_answer;
  refusals = λ w. bad_arena w ∷ spent k w ∷ [];
  rooms = λ r l. [];
  does = λ rooms p. reserve_on k p;
  leaves = λ w w' l. Unit {0};
  begins = false;
}

-- ---- a single order: the call of its code; any other code is refused

-- it changes nothing: it only reads, or its code is unknown
abbrev pub still : Kind → Bool
still putting = false
still getting = true
still deleting = false
still reserving = false
still unknown = true

abbrev pub order : Order → Call
order o = record {
  promise = promise.order o;
  speech = in_answer;
  refusals = λ w. bad_arena w ∷ no_room_for o w ∷ [];
  rooms = λ r l. [];
  does = λ rooms p. ordered true o p;
  leaves = λ w w' l. still (kind_of o.code) ≡ true → w' ≡ w;
  begins = false;
}

-- ---- a listing: the first min(K, all) pairs of the range, for the room K; how many, and whether more remain

abbrev pub list : Range → (output : List ℕ) → Call
list q o = record {
  promise = promise.list q o;
  speech = in_listing;
  refusals = λ w. bad_arena w ∷ panics q ∷ [];
  rooms = λ r l. [];
  does = λ rooms p. only (record { answer = Done; wrote = min (room o) (length (range q p.pairs)); more = ltb (room o) (length (range q p.pairs)) }) p;
  leaves = λ w w' o'. (w' ≡ w) × (o' ≡ laid (take (room o) (range q (stored w))) o);
  begins = false;
}

-- ---- how many keys are smaller, how many pairs a range has, which pair is at a rank

abbrev pub rank : (key : ℕ) → Call
rank k = record {
  promise = promise.rank k;
  speech = in_count;
  refusals = λ w. bad_arena w ∷ [];
  rooms = λ r l. [];
  does = λ rooms p. only (record { answer = Done; number = rank_of k p.pairs }) p;
  leaves = λ w w' l. w' ≡ w;
  begins = false;
}

abbrev pub count : Range → Call
count q = record {
  promise = promise.count q;
  speech = in_count;
  refusals = λ w. bad_arena w ∷ panics q ∷ [];
  rooms = λ r l. [];
  does = λ rooms p. only (record { answer = Done; number = length (range q p.pairs) }) p;
  leaves = λ w w' l. w' ≡ w;
  begins = false;
}

abbrev pub at : (rank : ℕ) → Call
at i = record {
  promise = promise.at i;
  speech = in_pick;
  refusals = λ w. bad_arena w ∷ [];
  rooms = λ r l. [];
  does = λ rooms p. only (picked (nth i p.pairs)) p;
  leaves = λ w w' l. w' ≡ w;
  begins = false;
}

-- ---- the walking cursor: the cursor that is handed back is lent. Refused, it stays as it was: of first and seek past the last pair, of last before the first

-- the cursor c' of these words is left with the count n, on the pair found or at an end
abbrev pub Left : ℕ → Stand → (List Pair → Option Pair) → (w w' : List ℕ) → Cursor → Type 0
Left n end found w w' c' = (w' ≡ w) × (c'.changes ≡ n) × LeftOn w end (found (stored w)) c'.stand

abbrev pub first : (changes : ℕ) → Call
first n = record {
  promise = promise.first n;
  speech = in_pick;
  refusals = λ w. bad_arena w ∷ [];
  rooms = λ r l. [];
  does = λ rooms p. only (picked (first_of p.pairs)) p;
  leaves = Left n past first_of;
  begins = false;
}

abbrev pub last : (changes : ℕ) → Call
last n = record {
  promise = promise.last n;
  speech = in_pick;
  refusals = λ w. bad_arena w ∷ [];
  rooms = λ r l. [];
  does = λ rooms p. only (picked (last_of p.pairs)) p;
  leaves = Left n before last_of;
  begins = false;
}

abbrev pub seek : (changes : ℕ) → SearchBound → Call
seek n b = record {
  promise = promise.seek n b;
  speech = in_pick;
  refusals = λ w. bad_arena w ∷ [];
  rooms = λ r l. [];
  does = λ rooms p. only (picked (sought_in b p.pairs)) p;
  leaves = Left n past (sought_in b);
  begins = false;
}

-- the counts differ, or the cursor's place holds no pair and is no end
abbrev pub stale_cursor : ℕ → Cursor → List ℕ → Refusal
stale_cursor n c w = record { answer = StaleCursor; when = Stale w n c }

-- a step, told with the key at the cursor's place: a plain list knows keys, but no places. The words have one key there, so that this leaves out no step
abbrev pub knowing : Cursor → ℕ → Promise → Promise
knowing c k p = record { Said = p.Said; Lent = p.Lent; lent = p.lent; ends = λ w w' l r. KeyAt w c.stand k × p.ends w w' l r }

abbrev pub next : (changes : ℕ) → Cursor → (key : ℕ) → Call
next n c k = record {
  promise = knowing c k (promise.next n c);
  speech = in_pick;
  refusals = λ w. bad_arena w ∷ stale_cursor n c w ∷ [];
  rooms = λ r l. [];
  does = λ rooms p. only (picked (next_of c.stand k p.pairs)) p;
  leaves = Left n past (next_of c.stand k);
  begins = false;
}

abbrev pub previous : (changes : ℕ) → Cursor → (key : ℕ) → Call
previous n c k = record {
  promise = knowing c k (promise.previous n c);
  speech = in_pick;
  refusals = λ w. bad_arena w ∷ stale_cursor n c w ∷ [];
  rooms = λ r l. [];
  does = λ rooms p. only (picked (previous_of c.stand k p.pairs)) p;
  leaves = Left n before (previous_of c.stand k);
  begins = false;
}

-- ---- a batch

-- the refusals that an order of a batch that runs may have
abbrev pub OrderRefusal : Answer → Type 0
OrderRefusal r = (r ≡ NoRoom) ⊎ (r ≡ BadOrder) ⊎ (r ≡ Spent)

-- the first order as a single call would, from the words w; its answer's two words stand in its place. The words between two orders are well-formed
pub record First (o : Order) (w a : List ℕ) (Rest : List ℕ → List ℕ → Type 0) : Type 0 where
  pub between : List ℕ
  pub answer : Answer
  pub others : List ℕ
  pub as_single : promise.Promised (promise.order o) w between tt answer
  pub formed : WellFormed between
  pub refused : refusal answer ≡ true → OrderRefusal answer
  pub written : a ≡ (numbers_of answer).number ∷ (numbers_of answer).word ∷ others
  pub rest : Rest between others

-- and the others so, each from the words that the one before it left
abbrev pub InTurn : List Order → (w w' a : List ℕ) → Type 0
InTurn [] w w' a = (w' ≡ w) × (a ≡ [])
InTurn (o ∷ os) w w' a = First o w a (λ v b. InTurn os v w' b)

-- its answers and what it makes of a plain list: its orders in turn, where those answered NoRoom, and no other, found no room
abbrev pub batch : (orders answers : List ℕ) → Call
batch b a = record {
  promise = promise.batch b a;
  speech = in_answer;
  refusals = λ w. bad_size (Fits b a → ⊥) ∷ bad_arena w ∷ [];
  rooms = λ r a'. rooms_by a';
  does = λ rooms p. let m = ordered_all rooms (triples b) p in record { said = Done; plain = m.plain; spent = m.spent };
  leaves = λ w w' a'. (a' ≡ (ordered_all (rooms_by a') (triples b) (held w)).said) × InTurn (triples b) w w' a';
  begins = false;
}

-- ---- restore: the image's pairs, and the larger of the marks seen

abbrev pub restore : (older : Bool) (image : List ℕ) → Call
restore meant i = record {
  promise = promise.restore meant i;
  speech = in_answer;
  refusals = λ w. bad_size (length i ≡ length w → ⊥) ∷ bad_arena w ∷ bad_image i ∷ older meant w i ∷ [];
  rooms = λ r l. [];
  does = λ rooms p. record { said = Done; plain = record { pairs = stored i; mark = higher p.mark (stored_mark i) }; spent = bringing (stored_mark i) };
  leaves = λ w w' l. Unit {0};
  begins = false;
}

-- ---- upgrade: the arena is the target, and begins a history with the pairs and the mark of the format 1 source

abbrev pub upgrade : (source : List ℕ) → Call
upgrade w = record {
  promise = promise.upgrade w;
  speech = in_answer;
  refusals = λ v. bad_arena_by Format1 w ∷ bad_size (length v ≡ base (header w count_word) → ⊥) ∷ [];
  rooms = λ r l. [];
  does = λ rooms p. record { said = Done; plain = held_by Format1 w; spent = bringing (stored_mark w) };
  leaves = λ v v' l. Unit {0};
  begins = true;
}

-- ---- load: it begins a history with the run's pairs and its last key

abbrev pub load : (run : List ℕ) → Call
load run = record {
  promise = promise.load run;
  speech = in_answer;
  refusals = λ w. bad_size (Loadable run w → ⊥) ∷ not_rising (pairs_of run) ∷ no_nodes (pairs_of run) w ∷ [];
  rooms = λ r l. [];
  does = λ rooms p. let ps = pairs_of run in record { said = Done; plain = record { pairs = ps; mark = last_mark ps }; spent = bringing (last_mark ps) };
  leaves = λ w w' l. Unit {0};
  begins = true;  -- whatever the slice held
}

-- ---- cut: the pairs below the key stay in the first arena, with its mark; the second slice begins a history with the others, and with that mark too

abbrev pub cut_refusals : ℕ → (first second : List ℕ) → List Refusal
cut_refusals k w v = bad_size (AnyCount (length v) → ⊥) ∷ bad_arena w ∷ no_nodes (upper k (stored w)) v ∷ []

abbrev pub cut_first : (key : ℕ) (second : List ℕ) → Call
cut_first k v = record {
  promise = promise.cut k v;
  speech = in_answer;
  refusals = λ w. cut_refusals k w v;
  rooms = λ r l. [];
  does = λ rooms p. record { said = Done; plain = record { pairs = lower k p.pairs; mark = p.mark }; spent = [] };
  leaves = λ w w' v'. WellFormed v' × (held v' ≡ record { pairs = upper k (stored w); mark = stored_mark w });
  begins = false;
}

abbrev pub cut_second : (key : ℕ) (first : List ℕ) → Call
cut_second k w = record {
  promise = promise.cut_second k w;
  speech = in_answer;
  refusals = λ v. cut_refusals k w v;
  rooms = λ r l. [];
  does = λ rooms p. record { said = Done; plain = record { pairs = upper k (stored w); mark = stored_mark w }; spent = bringing (stored_mark w) };
  leaves = λ v v' w'. WellFormed w' × (held w' ≡ record { pairs = lower k (stored w); mark = stored_mark w });
  begins = true;
}

-- ---- join: the first arena has the pairs of both, the second's where a key is in both, and the larger of the marks seen; the second has none and keeps its mark;
-- the pairs are written to the third slice

abbrev pub join_refusals : (first second third : List ℕ) → List Refusal
join_refusals w v o =
    bad_arena w ∷ bad_arena v
    ∷ bad_size (length o < 2 * (length (stored w) + length (stored v)))
    ∷ no_nodes (merge (stored w) (stored v)) w
    ∷ []

abbrev pub join_first : (second third : List ℕ) → Call
join_first v o = record {
  promise = promise.join v o;
  speech = in_answer;
  refusals = λ w. join_refusals w v o;
  rooms = λ r l. [];
  does = λ rooms p. record { said = Done; plain = record { pairs = merge p.pairs (stored v); mark = higher p.mark (stored_mark v) }; spent = bringing (stored_mark v) };
  leaves = λ w w' l. WellFormed l.0 × (held l.0 ≡ record { pairs = []; mark = stored_mark v }) × (l.1 ≡ laid (merge (stored w) (stored v)) o);
  begins = false;
}

abbrev pub join_second : (first third : List ℕ) → Call
join_second w o = record {
  promise = promise.join_second w o;
  speech = in_answer;
  refusals = λ v. join_refusals w v o;
  rooms = λ r l. [];
  does = λ rooms p. record { said = Done; plain = record { pairs = []; mark = p.mark }; spent = [] };
  leaves = λ v v' l. WellFormed l.0 × (held l.0 ≡ record { pairs = merge (stored w) (stored v); mark = higher (stored_mark w) (stored_mark v) }) × (l.1 ≡ laid (merge (stored w) (stored v)) o);
  begins = false;
}
