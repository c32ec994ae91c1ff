-- The walking cursor: every pair once, there and back, and when a step is refused.
-- Assumes nothing.
use Prim.Native.Nat.{ℕ, suc}
use native.Mathlib.Omega.{arith}
use mathlib.Core.Path.{◌≡◌, refl, sym, ap, ◌∙◌, subst}
use mathlib.Core.Logic.{inl, inr}
use mathlib.Core.Bool.{Bool, true, false}
use mathlib.Core.List.{List, [], ◌∷◌, ◌++◌, map, map-append, append_assoc, reverse, reverse-cons, reverse-reverse}
use mathlib.Core.Option.{Option, some, none}
use lib.Dec.{eqb}
use lib.ListN.{length, length-map, length-reverse}
use borrow.Author.Tests.{eq-eqb, eqb-true, eqb-false}
use Rattle.model.specs.declared.Answer.TheVariants.{StaleCursor}
use Rattle.model.specs.declared.SearchBound.{SearchBound}
use Rattle.model.specs.declared.SearchBound.TheVariants.{AllIncluded}
use Rattle.model.specs.Lists.{All}
use Rattle.model.specs.Tree.{Pair}
use Rattle.model.specs.Range.{starts}
use Rattle.model.specs.Map.{range, nth, picked}
use Rattle.model.specs.Answer.{numbers_of}
use Rattle.model.specs.State.{State, list}
use Rattle.model.specs.Promise.{Holds}
use Rattle.model.specs.Cursor.{Stop, Stand, before, on, past, Cursor, Moved, Post, posts, PairAt, pair_at, moved, first, last, from, same_stop, onward, ahead, turned, step, previous}
use Rattle.walking.specs.Walking.{steps, tour, each, standing, EveryRising, EveryFalling, ThereAndBack, FirstAdmitted, NoPair, Stale, Refuses, ExactlyStale, Ends}
use Rattle.walking.proofs.Posts.{pair_of, posts_pairs, Stands, all_stand, same_stop_lem, reverse_split, all_reverse, onward_rising, onward_falling}
use Rattle.walking.proofs.Live.{live_post}

-- ---- a walk through posts in turn: rising, or falling through the same reversed

-- the end ahead, the ends as the walk sees them, and the posts, of which each is found at its place
module _ (n : ℕ) (end : Stand) (f : Stand → Stand) (still : (p : Stop) → f (on p) ≡ on p) (ps : List Post) (found : (a : List Post) (p : Post) (b : List Post) → ps ≡ a ++ p ∷ b → onward p.stop ps ≡ some b) where
  abbrev walk : Cursor → Moved
  walk c = step n end c (ahead (f c.stand) ps)

  goes : (st : Stand) (b : List Post) → ahead (f st) ps ≡ some b → walk (standing n st) ≡ moved n end b
  goes st b q = ap (step n end (standing n st)) q ∙ rw (eq-eqb n n refl) refl

  leaves : (a : List Post) (p : Post) (b : List Post) → ps ≡ a ++ p ∷ b → ahead (f (on p.stop)) ps ≡ some b
  leaves a p b e = ap (λ st. ahead st ps) (still p.stop) ∙ found a p b e

  walk_all : (a b : List Post) (st : Stand) → ps ≡ a ++ b → ahead (f st) ps ≡ some b → steps walk (suc (length b)) (standing n st) ≡ each (map pair_of b)
  walk_all a [] st e q = ap (λ (m : Moved). m.found ∷ []) (goes st [] q)
  walk_all a (p ∷ b) st e q =
      ap (λ (m : Moved). m.found ∷ steps walk (suc (length b)) m.cursor) (goes st (p ∷ b) q)
      ∙ ap (λ l. picked (some p.pair) ∷ l) (walk_all (a ++ p ∷ []) b (on p.stop) (e ∙ sym (append_assoc a (p ∷ []) b)) (leaves a p b e))

  -- from an end with all ahead
  tour_all : (st : Stand) (k : ℕ) (m : Moved) (ls : List Pair) → ahead (f st) ps ≡ some ps → m ≡ moved n end ps → k ≡ length ps → map pair_of ps ≡ ls → tour walk k m ≡ each ls
  tour_all st k m ls q em ek el =
      ap (tour walk k) em ∙ (ap (λ j. tour walk j (moved n end ps)) ek ∙ (ap (tour walk (length ps)) (sym (goes st ps q)) ∙ (walk_all [] ps st refl q ∙ ap each el)))

  -- refused exactly where the counts differ or nothing is ahead; the cursor is left
  module _ (w : List ℕ) (c : Cursor) (shut : ahead (f c.stand) ps ≡ none → NoPair w c.stand) (opens : (b : List Post) → ahead (f c.stand) ps ≡ some b → NoPair w c.stand → ⊥) where
    refuses : Refuses w n c (walk c)
    refuses = by (ahead (f c.stand) ps) refl (eqb n c.changes) refl
      where
        stale_moves : (b : List Post) → (moved n end b).found.answer ≡ StaleCursor → ⊥
        stale_moves [] e = let z = ap (λ a. (numbers_of a).number) e in omega arith
        stale_moves (p ∷ b) e = let z = ap (λ a. (numbers_of a).number) e in omega arith

        by : (q : Option (List Post)) → ahead (f c.stand) ps ≡ q → (t : Bool) → eqb n c.changes ≡ t → Refuses w n c (walk c)
        by none e t u = rw e (record { exactly = (λ z. inr (shut e), λ z. refl); unmoved = λ z. refl })
        by (some b) e false u = rw (e, u) (record { exactly = (λ z. inl (eqb-false n c.changes u), λ z. refl); unmoved = λ z. refl })
        by (some b) e true u = rw (e, u) (record { exactly = (λ z. absurd (stale_moves b z), λ z. absurd (not_stale z)); unmoved = λ z. absurd (stale_moves b z) })
          where
            not_stale : Stale w n c → ⊥
            not_stale (inl d) = d (eqb-true n c.changes u)
            not_stale (inr y) = opens b e y

-- a walk one way and a step back the other way
module _ (n : ℕ) (end end' : Stand) (f f' : Stand → Stand) (still : (p : Stop) → f (on p) ≡ on p) (still' : (p : Stop) → f' (on p) ≡ on p) (ps : List Post)
    (found : (a : List Post) (p : Post) (b : List Post) → ps ≡ a ++ p ∷ b → onward p.stop ps ≡ some b)
    (found' : (a : List Post) (p : Post) (b : List Post) → reverse ps ≡ a ++ p ∷ b → onward p.stop (reverse ps) ≡ some b)
    (back : f' end ≡ before) where
  there_back : (a : List Post) (p : Post) (b : List Post) → ps ≡ a ++ p ∷ b
      → walk n end' f' still' (reverse ps) found' (walk n end f still ps found (standing n (on p.stop))).cursor ≡ record { cursor = standing n (on p.stop); found = picked (some p.pair) }
  there_back a p b e =
      ap (λ (m : Moved). walk n end' f' still' (reverse ps) found' m.cursor) (goes n end f still ps found (on p.stop) b (leaves n end f still ps found a p b e)) ∙ go b e
    where
      go : (b : List Post) → ps ≡ a ++ p ∷ b → walk n end' f' still' (reverse ps) found' (moved n end b).cursor ≡ record { cursor = standing n (on p.stop); found = picked (some p.pair) }
      go [] e = goes n end' f' still' (reverse ps) found' end (p ∷ reverse a) (ap (λ st. ahead st (reverse ps)) back ∙ ap some (ap reverse e ∙ reverse_split a p []))
      go (q ∷ b) e =
          let v : reverse ps ≡ reverse b ++ q ∷ (p ∷ reverse a) = ap reverse (e ∙ sym (append_assoc a (p ∷ []) (q ∷ b))) ∙ (reverse_split (a ++ p ∷ []) q b ∙ ap (λ l. reverse b ++ q ∷ l) (reverse_split a p [])) in
          goes n end' f' still' (reverse ps) found' (on q.stop) (p ∷ reverse a) (leaves n end' f' still' (reverse ps) found' (reverse b) q (p ∷ reverse a) v)

-- ---- of a sound state

pub map_reverse : {A B : Type 0} (f : A → B) (l : List A) → map f (reverse l) ≡ reverse (map f l)
map_reverse f [] = refl
map_reverse f (x ∷ l) = ap (map f) (reverse-cons x l) ∙ (map-append f (reverse l) (x ∷ []) ∙ (ap (λ k. k ++ f x ∷ []) (map_reverse f l) ∙ sym (reverse-cons (f x) (map f l))))

abbrev id : Stand → Stand
id st = st

pub falling_pairs : (s : State) → map pair_of (reverse (posts s)) ≡ reverse (list s)
falling_pairs s = map_reverse pair_of (posts s) ∙ ap reverse (posts_pairs s)

many : (s : State) → length (list s) ≡ length (posts s)
many s = ap length (sym (posts_pairs s)) ∙ length-map (posts s) pair_of

module _ {w : List ℕ} {s : State} (o : Holds w s) where
  rising : (a : List Post) (p : Post) (b : List Post) → posts s ≡ a ++ p ∷ b → onward p.stop (posts s) ≡ some b
  rising a p b e = onward_rising o a p b e

  falling : (a : List Post) (p : Post) (b : List Post) → reverse (posts s) ≡ a ++ p ∷ b → onward p.stop (reverse (posts s)) ≡ some b
  falling a p b e = onward_falling o (reverse b) p (reverse a) (sym (reverse-reverse (posts s)) ∙ (ap reverse e ∙ reverse_split a p b)) ∙ ap some (reverse-reverse b)

pub every_rising : EveryRising
every_rising w s o n = (o.sound.rising, tour_all n past id (λ p. refl) (posts s) (rising o) before (length (list s)) (first n s) (list s) refl refl (many s) (posts_pairs s))

pub every_falling : EveryFalling
every_falling w s o n = (o.sound.rising, tour_all n before turned (λ p. refl) (reverse (posts s)) (falling o) past (length (list s)) (last n s) (reverse (list s)) refl refl (many s ∙ sym (length-reverse (posts s))) (falling_pairs s))

pub there_and_back : ThereAndBack
there_and_back w s o n p y =
    let z = live_post o p y in
    let P : Post = record { stop = p; pair = pair_at w p } in
    record {
      next_previous = there_back n past before id turned (λ q. refl) (λ q. refl) (posts s) (rising o) (falling o) refl z.0 P z.1 z.2;
      previous_next =
          let e : reverse (posts s) ≡ reverse z.1 ++ P ∷ reverse z.0 = ap reverse z.2 ∙ reverse_split z.0 P z.1 in
          let g : (a : List Post) (q : Post) (b : List Post) → reverse (reverse (posts s)) ≡ a ++ q ∷ b → onward q.stop (reverse (reverse (posts s))) ≡ some b = λ a q b v. rw (reverse-reverse (posts s)) (rising o a q b (sym (reverse-reverse (posts s)) ∙ v)) in
          let h = there_back n before past turned id (λ q. refl) (λ q. refl) (reverse (posts s)) (falling o) g refl (reverse z.1) P (reverse z.0) e in
          subst (λ (l : List Post). step n past (previous n (standing n (on p)) s).cursor (ahead (previous n (standing n (on p)) s).cursor.stand l) ≡ record { cursor = standing n (on p); found = picked (some (pair_at w p)) }) (reverse-reverse (posts s)) h;
    }

-- ---- what is found

admitted : (n : ℕ) (b : SearchBound) (ps : List Post) → (moved n past (from b ps)).found ≡ picked (nth 0 (range (record { start = b; end = AllIncluded }) (map pair_of ps)))
admitted n b [] = refl
admitted n b (p ∷ ps) = go (starts b p.pair) refl (admitted n b ps)
  where
    go : (t : Bool) → starts b p.pair ≡ t → (moved n past (from b ps)).found ≡ picked (nth 0 (range (record { start = b; end = AllIncluded }) (map pair_of ps))) → (moved n past (from b (p ∷ ps))).found ≡ picked (nth 0 (range (record { start = b; end = AllIncluded }) (map pair_of (p ∷ ps))))
    go true e h = rw e refl
    go false e h = rw e h

heads : (n : ℕ) (end : Stand) (ps : List Post) → (moved n end ps).found ≡ picked (nth 0 (map pair_of ps))
heads n end [] = refl
heads n end (p ∷ ps) = refl

pub first_admitted : FirstAdmitted
first_admitted w s o n = record {
  seeks = λ b. admitted n b (posts s) ∙ ap (λ l. picked (nth 0 (range (record { start = b; end = AllIncluded }) l))) (posts_pairs s);
  first_is = heads n past (posts s) ∙ ap (λ l. picked (nth 0 l)) (posts_pairs s);
  last_is = heads n before (reverse (posts s)) ∙ ap (λ l. picked (nth 0 l)) (falling_pairs s);
}

-- ---- when a step is refused

none_some : {A : Type 0} {a : A} → none ≡ some a → ⊥
none_some {A} e = let z : ◌≡◌ {A = ℕ} 0 1 = ap code e in omega arith
  where
    code : Option A → ℕ
    code none = 0
    code (some a) = 1

-- a place that is found holds a pair
pub found_pair : {w : List ℕ} (p : Stop) (ps b : List Post) → All (Stands w) ps → onward p ps ≡ some b → PairAt w p
found_pair p [] b x e = absurd (none_some e)
found_pair {w} p (q ∷ ps) b x e = go (same_stop p q.stop) refl (found_pair p ps b x.1)
  where
    go : (t : Bool) → same_stop p q.stop ≡ t → (onward p ps ≡ some b → PairAt w p) → PairAt w p
    go true u h = subst (PairAt w) (sym (same_stop_lem p q.stop u)) x.0.0
    go false u h = h (rw (u, onward) at e)

module _ {w : List ℕ} {s : State} (o : Holds w s) where
  rising_shut : (st : Stand) → ahead st (posts s) ≡ none → NoPair w st
  rising_shut before e = none_some (sym e)
  rising_shut (on p) e = λ y. let z = live_post o p y in none_some (sym e ∙ onward_rising o z.0 (record { stop = p; pair = pair_at w p }) z.1 z.2)
  rising_shut past e = none_some (sym e)

  rising_open : (st : Stand) (b : List Post) → ahead st (posts s) ≡ some b → NoPair w st → ⊥
  rising_open before b e y = y
  rising_open (on p) b e y = y (found_pair p (posts s) b (all_stand o) e)
  rising_open past b e y = y

  falling_shut : (st : Stand) → ahead (turned st) (reverse (posts s)) ≡ none → NoPair w st
  falling_shut before e = none_some (sym e)
  falling_shut (on p) e = λ y. let z = live_post o p y in none_some (sym e ∙ onward_falling o z.0 (record { stop = p; pair = pair_at w p }) z.1 z.2)
  falling_shut past e = none_some (sym e)

  falling_open : (st : Stand) (b : List Post) → ahead (turned st) (reverse (posts s)) ≡ some b → NoPair w st → ⊥
  falling_open before b e y = y
  falling_open (on p) b e y = y (found_pair p (reverse (posts s)) b (all_reverse (Stands w) (posts s) (all_stand o)) e)
  falling_open past b e y = y

pub exactly_stale : ExactlyStale
exactly_stale w s o n c = (
  refuses n past id (λ p. refl) (posts s) (rising o) w c (rising_shut o c.stand) (rising_open o c.stand),
  refuses n before turned (λ p. refl) (reverse (posts s)) (falling o) w c (falling_shut o c.stand) (falling_open o c.stand),
)

-- ---- at the ends

no_posts : (s : State) → list s ≡ [] → posts s ≡ []
no_posts s e = go (posts s) (posts_pairs s ∙ e)
  where
    go : (ps : List Post) → map pair_of ps ≡ [] → ps ≡ []
    go [] q = refl
    go (p ∷ ps) q = absurd (omega (arith, ap length q))

pub at_the_ends : Ends
at_the_ends s n = record {
  past_stays = rw (eq-eqb n n refl) refl;
  before_stays = rw (eq-eqb n n refl) refl;
  back_to_last = rw (eq-eqb n n refl) refl;
  back_to_first = rw (eq-eqb n n refl) refl;
  empty_back = λ e. rw (eq-eqb n n refl) (ap (λ l. moved n before (reverse l)) (no_posts s e));
  empty_on = λ e. rw (eq-eqb n n refl) (ap (moved n past) (no_posts s e));
}
