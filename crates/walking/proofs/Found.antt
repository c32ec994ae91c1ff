-- What each move finds in the plain list.
-- Assumes nothing.
use Prim.Native.Nat.{ℕ}
use native.Mathlib.Omega.{arith}
use mathlib.Core.Path.{◌≡◌, refl, sym, ap, ◌∙◌, subst}
use mathlib.Core.Logic.{◌⊎◌, inl, inr}
use mathlib.Core.Bool.{Bool, true, false, cond}
use mathlib.Core.List.{List, [], ◌∷◌, ◌++◌, map, map-append, reverse}
use mathlib.Core.Option.{Option, some, none}
use lib.Dec.{eqb}
use borrow.Author.Tests.{le-ltb, lt-ltb}
use Rattle.model.specs.declared.Answer.TheVariants.{StaleCursor}
use Rattle.model.specs.declared.Range.{Range}
use Rattle.model.specs.declared.SearchBound.{SearchBound}
use Rattle.model.specs.declared.SearchBound.TheVariants.{Excluded, AllIncluded}
use Rattle.model.specs.Lists.{All}
use Rattle.model.specs.Tree.{Pair}
use Rattle.model.specs.Range.{starts}
use Rattle.model.specs.Map.{Below, Above, Rising, range}
use Rattle.model.specs.Answer.{numbers_of}
use Rattle.model.specs.State.{State, list}
use Rattle.model.specs.Promise.{Holds}
use Rattle.model.specs.Cursor.{Stop, Stand, before, on, past, Cursor, Moved, Post, posts, pair_at, moved, first, last, from, seek, ahead, turned, stale, step, next, previous}
use Rattle.model.proofs.Lists.{all_left, all_right}
use Rattle.model.proofs.Rising.{rising_below, rising_above}
use Rattle.walking.specs.Walking.{Stale, Refuses}
use Rattle.walking.specs.Found.{KeyAt, first_of, last_of, sought_in, next_of, previous_of, Lands}
use Rattle.walking.proofs.Posts.{pair_of, posts_pairs, Stands, all_stand, all_reverse, onward_rising, onward_falling}
use Rattle.walking.proofs.Live.{live_post}
use Rattle.walking.proofs.Walks.{map_reverse, falling_pairs, found_pair, exactly_stale}

-- a move to the first of these
lands : {w : List ℕ} (n : ℕ) (end : Stand) (ps : List Post) → All (Stands w) ps → Lands w n end (first_of (map pair_of ps)) (moved n end ps)
lands n end [] x = record { finds = refl; counts = refl; stands = refl }
lands n end (p ∷ ps) x = record { finds = refl; counts = refl; stands = (p.stop, refl, x.0.0, x.0.1) }

as_found : {w : List ℕ} {n : ℕ} {end : Stand} {m : Moved} (o q : Option Pair) → o ≡ q → Lands w n end o m → Lands w n end q m
as_found {w} {n} {end} {m} o q e x = subst (λ (z : Option Pair). Lands w n end z m) e x

all_from : (w : List ℕ) (b : SearchBound) (ps : List Post) → All (Stands w) ps → All (Stands w) (from b ps)
all_from w b [] x = tt
all_from w b (p ∷ ps) x = go (starts b p.pair) (all_from w b ps x.1)
  where
    go : (t : Bool) → All (Stands w) (from b ps) → All (Stands w) (cond t (p ∷ ps) (from b ps))
    go true y = x
    go false y = y

from_sought : (b : SearchBound) (ps : List Post) → first_of (map pair_of (from b ps)) ≡ sought_in b (map pair_of ps)
from_sought b [] = refl
from_sought b (p ∷ ps) = go (starts b p.pair) refl (from_sought b ps)
  where
    go : (t : Bool) → starts b p.pair ≡ t → first_of (map pair_of (from b ps)) ≡ sought_in b (map pair_of ps) → first_of (map pair_of (from b (p ∷ ps))) ≡ sought_in b (map pair_of (p ∷ ps))
    go true e h = rw e refl
    go false e h = rw e h

module _ {w : List ℕ} {s : State} (o : Holds w s) (n : ℕ) where
  pub first_lands : Lands w n past (first_of (list s)) (first n s)
  first_lands = as_found _ _ (ap first_of (posts_pairs s)) (lands n past (posts s) (all_stand o))

  pub last_lands : Lands w n before (last_of (list s)) (last n s)
  last_lands = as_found _ _ (ap first_of (falling_pairs s)) (lands n before (reverse (posts s)) (all_reverse (Stands w) (posts s) (all_stand o)))

  pub seek_lands : (b : SearchBound) → Lands w n past (sought_in b (list s)) (seek n b s)
  seek_lands b = as_found _ _ (from_sought b (posts s) ∙ ap (sought_in b) (posts_pairs s)) (lands n past (from b (posts s)) (all_from w b (posts s) (all_stand o)))

-- ---- beside a key

abbrev Over : ℕ → Range
Over k = record { start = Excluded k; end = AllIncluded }

abbrev Under : ℕ → Range
Under k = record { start = AllIncluded; end = Excluded k }

-- the pairs above a key, and those below it
over_all : (k : ℕ) (b : List Pair) → Above k b → range (Over k) b ≡ b
over_all k [] x = refl
over_all k (p ∷ b) x = rw (lt-ltb k p.key x.0) (ap (λ l. p ∷ l) (over_all k b x.1))

over : (p : Pair) (a b : List Pair) → Below p.key a → Above p.key b → range (Over p.key) (a ++ p ∷ b) ≡ b
over p [] b x y = rw (le-ltb p.key p.key (omega arith)) (over_all p.key b y)
over p (q ∷ a) b x y = rw (le-ltb p.key q.key (omega (arith, x.0))) (over p a b x.1 y)

under_none : (k : ℕ) (b : List Pair) → Above k b → range (Under k) b ≡ []
under_none k [] x = refl
under_none k (p ∷ b) x = rw (le-ltb p.key k (omega (arith, x.0))) (under_none k b x.1)

under : (p : Pair) (a b : List Pair) → Below p.key a → Above p.key b → range (Under p.key) (a ++ p ∷ b) ≡ a
under p [] b x y = rw (le-ltb p.key p.key (omega arith)) (under_none p.key b y)
under p (q ∷ a) b x y = rw (lt-ltb q.key p.key x.0) (ap (λ l. q ∷ l) (under p a b x.1 y))

some_is : {A : Type 0} {a b : A} → some a ≡ some b → a ≡ b
some_is {A} {a} e = ap or_else e
  where
    or_else : Option A → A
    or_else none = a
    or_else (some c) = c

-- what lies ahead of a cursor that holds a pair or is at an end
pub record Before (w : List ℕ) (o : Option Pair) (ps : List Post) : Type 0 where
  pub stand : All (Stands w) ps
  pub first_is : first_of (map pair_of ps) ≡ o

module _ {w : List ℕ} {s : State} (o : Holds w s) where
  -- the pairs about one
  module _ (p : Stop) (a b : List Post) (e : posts s ≡ a ++ record { stop = p; pair = pair_at w p } ∷ b) where
    abbrev P : Post
    P = record { stop = p; pair = pair_at w p }

    pairs_are : list s ≡ map pair_of a ++ pair_at w p ∷ map pair_of b
    pairs_are = sym (posts_pairs s) ∙ (ap (map pair_of) e ∙ map-append pair_of a (P ∷ b))

    rises : Rising (map pair_of a ++ pair_at w p ∷ map pair_of b)
    rises = subst Rising pairs_are o.sound.rising

    stand : All (Stands w) (a ++ P ∷ b)
    stand = subst (All (Stands w)) e (all_stand o)

    below : Below (pair_at w p).key (map pair_of a)
    below = rising_below (pair_at w p) (map pair_of b) (map pair_of a) rises

    above : Above (pair_at w p).key (map pair_of b)
    above = rising_above (pair_at w p) (map pair_of b) (map pair_of a) rises

    ahead_of : (k : ℕ) → (pair_at w p).key ≡ k → Before w (next_of (on p) k (list s)) b
    ahead_of k q = record { stand = (all_right (Stands w) a (P ∷ b) stand).1; first_is = sym (ap (λ j. sought_in (Excluded j) (list s)) (sym q) ∙ (ap (λ l. first_of (range (Over (pair_at w p).key) l)) pairs_are ∙ ap first_of (over (pair_at w p) (map pair_of a) (map pair_of b) below above))) }

    behind_of : (k : ℕ) → (pair_at w p).key ≡ k → Before w (previous_of (on p) k (list s)) (reverse a)
    behind_of k q = record {
      stand = all_reverse (Stands w) a (all_left (Stands w) a (P ∷ b) stand);
      first_is = ap first_of (map_reverse pair_of a) ∙ sym (ap (λ j. last_of (range (Under j) (list s))) (sym q) ∙ (ap (λ l. last_of (range (Under (pair_at w p).key) l)) pairs_are ∙ ap last_of (under (pair_at w p) (map pair_of a) (map pair_of b) below above)));
    }

  next_ahead : (st : Stand) (k : ℕ) (ps : List Post) → KeyAt w st k → ahead st (posts s) ≡ some ps → Before w (next_of st k (list s)) ps
  next_ahead before k ps q e = rw (← some_is e) (record { stand = all_stand o; first_is = ap first_of (posts_pairs s) })
  next_ahead (on p) k ps q e =
      let z = live_post o p (found_pair p (posts s) ps (all_stand o) e) in
      subst (Before w (next_of (on p) k (list s))) (some_is (sym (onward_rising o z.0 (record { stop = p; pair = pair_at w p }) z.1 z.2) ∙ e)) (ahead_of p z.0 z.1 z.2 k q)
  next_ahead past k ps q e = rw (← some_is e) (record { stand = tt; first_is = refl })

  previous_ahead : (st : Stand) (k : ℕ) (ps : List Post) → KeyAt w st k → ahead (turned st) (reverse (posts s)) ≡ some ps → Before w (previous_of st k (list s)) ps
  previous_ahead before k ps q e = rw (← some_is e) (record { stand = tt; first_is = refl })
  previous_ahead (on p) k ps q e =
      let z = live_post o p (found_pair p (reverse (posts s)) ps (all_reverse (Stands w) (posts s) (all_stand o)) e) in
      subst (Before w (previous_of (on p) k (list s))) (some_is (sym (onward_falling o z.0 (record { stop = p; pair = pair_at w p }) z.1 z.2) ∙ e)) (behind_of p z.0 z.1 z.2 k q)
  previous_ahead past k ps q e = rw (← some_is e) (record { stand = all_reverse (Stands w) (posts s) (all_stand o); first_is = ap first_of (falling_pairs s) })

-- ---- a step is refused, or lands

not_stale : (n : ℕ) (end : Stand) (b : List Post) → (moved n end b).found.answer ≡ StaleCursor → ⊥
not_stale n end [] e = let z = ap (λ a. (numbers_of a).number) e in omega arith
not_stale n end (p ∷ b) e = let z = ap (λ a. (numbers_of a).number) e in omega arith

abbrev pub Stepped : List ℕ → ℕ → Stand → Option Pair → Cursor → Moved → Type 0
Stepped w n end o c m = (Stale w n c × (m ≡ stale c)) ⊎ ((Stale w n c → ⊥) × Lands w n end o m)

ends : {w : List ℕ} (n : ℕ) (end : Stand) (c : Cursor) (o : Option Pair) (q : Option (List Post)) → ((ps : List Post) → q ≡ some ps → Before w o ps) → Refuses w n c (step n end c q) → Stepped w n end o c (step n end c q)
ends n end c o none f r = inl (r.exactly.0 refl, refl)
ends {w} n end c o (some ps) f r = go (eqb n c.changes) r
  where
    go : (t : Bool) → Refuses w n c (cond t (moved n end ps) (stale c)) → Stepped w n end o c (cond t (moved n end ps) (stale c))
    go false r = inl (r.exactly.0 refl, refl)
    go true r = let b = f ps refl in inr ((λ x. not_stale n end ps (r.exactly.1 x)), as_found _ _ b.first_is (lands n end ps b.stand))

module _ {w : List ℕ} {s : State} (o : Holds w s) (n : ℕ) (c : Cursor) (k : ℕ) (q : KeyAt w c.stand k) where
  pub next_ends : Stepped w n past (next_of c.stand k (list s)) c (next n c s)
  next_ends = ends n past c (next_of c.stand k (list s)) (ahead c.stand (posts s)) (λ ps. next_ahead o c.stand k ps q) (exactly_stale w s o n c).0

  pub previous_ends : Stepped w n before (previous_of c.stand k (list s)) c (previous n c s)
  previous_ends = ends n before c (previous_of c.stand k (list s)) (ahead (turned c.stand) (reverse (posts s))) (λ ps. previous_ahead o c.stand k ps q) (exactly_stale w s o n c).1

-- at every place the words have a key: what is told of steps from a known one is told of every step
pub some_key : (w : List ℕ) (st : Stand) → (k : ℕ) × KeyAt w st k
some_key w before = (0, tt)
some_key w (on p) = ((pair_at w p).key, refl)
some_key w past = (0, tt)
