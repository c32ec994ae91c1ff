-- The walking cursor: where it stands, and where first, last, seek, next and previous lead.
-- Assumes nothing.
use Rattle.std.specs.Prelude.{ℕ, zero, suc, ◌+◌, ◌<◌, ◌≡◌, Bool, cond, ◌&&◌, List, [], ◌∷◌, ◌++◌, reverse, eqb}
use Rattle.std.proofs.Math.Option.{Option, some, none}
use Rattle.model.specs.declared.Answer.TheVariants.{StaleCursor}
use Rattle.model.specs.declared.Picked.{Picked}
use Rattle.model.specs.declared.SearchBound.{SearchBound}
use Rattle.model.specs.Layout.{header, word_at, count_word, state_word, free, length_word, keys_word, values_word}
use Rattle.model.specs.Tree.{Pair, Item, Tree}
use Rattle.model.specs.Range.{starts}
use Rattle.model.specs.Map.{picked}
use Rattle.model.specs.State.{State}

-- a place of a node
pub record Stop : Type 0 where
  pub node : ℕ
  pub place : ℕ

-- before the first pair, on the pair at a place, or past the last
pub data Stand : Type 0 where
  before : Stand
  on : Stop → Stand
  past : Stand

-- a cursor: the count of changes that it was made or moved with, and where it stands
pub record Cursor : Type 0 where
  pub changes : ℕ
  pub stand : Stand

-- what a cursor call hands back: the cursor, and the pair
pub record Moved : Type 0 where
  pub cursor : Cursor
  pub found : Picked

-- ---- the pairs in order, each with its place

pub record Post : Type 0 where
  pub stop : Stop
  pub pair : Pair

-- those of the node n from the place i on, over those of an edge
abbrev pub posts_from : {A : Type 0} → (A → List Post) → ℕ → ℕ → List (Item A) → List Post
posts_from f n i [] = []
posts_from f n i (x ∷ xs) = record { stop = record { node = n; place = i }; pair = x.pair } ∷ (f x.edge ++ posts_from f n (suc i) xs)

abbrev pub posts_in : (h : ℕ) → Tree h → List Post
posts_in zero t = []
posts_in (suc h) t = posts_in h t.first ++ posts_from (posts_in h) t.no 0 t.rest

abbrev pub posts : State → List Post
posts s = posts_in s.whole.height s.whole.root

-- ---- the same by the words w: a place holds a pair when its node is below N and not free, and the place is below its length

pub record PairAt (w : List ℕ) (p : Stop) : Type 0 where
  pub inside : p.node < header w count_word
  pub used : word_at w p.node state_word ≡ free → ⊥
  pub short : p.place < word_at w p.node length_word

-- that pair
abbrev pub pair_at : List ℕ → Stop → Pair
pair_at w p = record { key = word_at w p.node (keys_word + p.place); val = word_at w p.node (values_word + p.place) }

-- ---- moves

-- to the first of these, or to an end if there is none
abbrev pub moved : ℕ → Stand → List Post → Moved
moved n end [] = record { cursor = record { changes = n; stand = end }; found = picked none }
moved n end (p ∷ ps) = record { cursor = record { changes = n; stand = on p.stop }; found = picked (some p.pair) }

abbrev pub first : ℕ → State → Moved
first n s = moved n past (posts s)

abbrev pub last : ℕ → State → Moved
last n s = moved n before (reverse (posts s))

-- from the first pair that a start bound admits
abbrev pub from : SearchBound → List Post → List Post
from b [] = []
from b (p ∷ ps) = cond (starts b p.pair) (p ∷ ps) (from b ps)

abbrev pub seek : ℕ → SearchBound → State → Moved
seek n b s = moved n past (from b (posts s))

-- ---- steps

abbrev pub same_stop : Stop → Stop → Bool
same_stop p q = eqb p.node q.node && eqb p.place q.place

-- what comes after a place, if a pair is there
abbrev pub onward : Stop → List Post → Option (List Post)
onward p [] = none
onward p (q ∷ qs) = cond (same_stop p q.stop) (some qs) (onward p qs)

-- what lies ahead of a cursor that goes through these in turn
abbrev pub ahead : Stand → List Post → Option (List Post)
ahead before ps = some ps
ahead (on p) ps = onward p ps
ahead past ps = some []

-- the same ends, seen from behind
abbrev pub turned : Stand → Stand
turned before = past
turned (on p) = on p
turned past = before

-- refused: the cursor is left unmoved
abbrev pub stale : Cursor → Moved
stale c = record { cursor = c; found = record { answer = StaleCursor; key = 0 } }

-- a step of a cursor that has these ahead; none where its place holds no pair and is no end
abbrev pub step : ℕ → Stand → Cursor → Option (List Post) → Moved
step n end c none = stale c
step n end c (some ps) = cond (eqb n c.changes) (moved n end ps) (stale c)

abbrev pub next : ℕ → Cursor → State → Moved
next n c s = step n past c (ahead c.stand (posts s))

abbrev pub previous : ℕ → Cursor → State → Moved
previous n c s = step n before c (ahead (turned c.stand) (reverse (posts s)))
