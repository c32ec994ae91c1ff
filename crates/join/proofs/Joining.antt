-- The steps of a join, and how its promise is met.
-- Assumes nothing.
use Rattle.model.specs.declared.Answer.TheVariants.{Done, NoRoom, BadArena, BadSize}
use Rattle.model.specs.Lists.{All, count}
use Rattle.model.specs.Layout.{Sized, header, count_word, pairs_word}
use Rattle.model.specs.Tree.{Pair}
use Rattle.model.specs.Mark.{Covers, higher, seen}
use Rattle.model.specs.Map.{Rising}
use Rattle.model.specs.State.{State, list, formatted, others_of}
use Rattle.model.specs.Load.{loaded_with}
use Rattle.model.specs.Room.{nodes_for}
use Rattle.model.specs.Join.{joined_run, joined, emptied}
use Rattle.model.specs.Words.{words_of}
use Rattle.model.specs.WellFormed.{WellFormed}
use Rattle.model.specs.Promise.{Holds, pair_words, laid, InState, Join}
use Rattle.model.proofs.Lists.{all_map}
use Rattle.model.proofs.Marks.{covers_left, covers_right}
use Rattle.model.proofs.Held.{words_long}
use Rattle.model.proofs.Backward.{backward}
use Rattle.model.proofs.Header.{header_is}
use Rattle.model.proofs.Unique.{in_state}
use Rattle.loading.proofs.Runs.{pairs_back, words_even}
use Rattle.loading.proofs.Merging.{all_merge, rising_merge, length_merge}
use Rattle.loading.proofs.Least.{nodes_more}
use Rattle.std.proofs.Common.{Bool, false, cond, Option, Some, None, Ordering, Less, Equal, Greater, nat_cmp, ℕ, zero, suc, ◌+◌, ◌-◌, ◌*◌, ◌≤◌, ◌<◌, max, arith, ◌≡◌, refl, sym, ap, ap₂, ◌∙◌, subst, inl, inr, List, [], lit<, take_at, length, take, drop, length-append}
use Rattle.std.specs.Ordering.{MatchOrdering, is_lt, ord_max}
use Rattle.std.specs.Option.{option_cmp}
use Rattle.std.proofs.lemmas.Cmp.{ranked}
use Rattle.header.specs.Headers.{marked}
use Rattle.inspect.specs.Tests.{Decides}
use Rattle.listing.proofs.Sofar.{words_length}
use Rattle.appending.specs.Runs.{Loads}
use Rattle.join.specs.Joins.{Anew}

-- ---- an arena loaded anew

pub to_load : {n : ℕ} {w w' run : List ℕ} → Anew n w run → w' ≡ words_of (formatted n) → Loads n w' run
to_load y e = record { words = e; some = y.sized.some; few = y.sized.few; even = y.even; rising = y.rising; room = y.room }

-- a run's words, as they lie at the start of the third slice
module _ (ps : List Pair) (o l : List ℕ) (e : l ≡ laid ps o) (n : ℕ) (many : n ≡ length ps) where
  pub run_there : 2 * n ≤ length l
  unfolding laid
  run_there = omega (arith, ap length e ∙ length-append (pair_words ps) (drop (2 * length ps) o), words_length ps, many)

  pub run_words : take (2 * n - 0) l ≡ pair_words ps
  unfolding laid
  run_words = ap (take (2 * n - 0)) e ∙ take_at (pair_words ps) (drop (2 * length ps) o) (2 * n - 0) (omega (arith, words_length ps, many))

module _ {w : List ℕ} {s : State} (h : Holds w s) where
  pub count_of : header w count_word ≡ s.size
  count_of = header_is h count_word (lit< tt)

  pub sized_of : Sized s.size (length w)
  sized_of = record { some = h.sound.some; few = h.sound.few; long_is = ap length h.words ∙ words_long h.sound }

  none_fit : 1 ≤ s.size → nodes_for 0 ≤ s.size
  unfolding nodes_for
  none_fit l = l

  -- no pairs
  pub anew_empty : (run : List ℕ) → run ≡ [] → Anew s.size w run
  anew_empty run e = rw e (record { count_is = count_of; sized = sized_of; even = record { half = 0; is = refl }; rising = tt; room = none_fit h.sound.some })

-- a load of none is a formatted arena with that mark
chained : (n : ℕ) → count 1 (n - 1) ≡ others_of n
chained zero = ap (count 1) (let z : 0 - 1 ≡ 0 = omega arith in z)
chained (suc n) = ap (count 1) (let z : suc n - 1 ≡ n = omega arith in z)

pub emptied_is : (t : State) → loaded_with t.mark t.size [] ≡ emptied t
emptied_is t = λ i. record { size = t.size; whole = (emptied t).whole; free = chained t.size i; mark = t.mark }

module _ {w v : List ℕ} {s t : State} (h : Holds w s) (g : Holds v t) where
  -- the joined run's
  pub anew_joined : nodes_for (length (joined_run s t)) ≤ s.size → Anew s.size w (pair_words (joined_run s t))
  anew_joined room =
      let e = pairs_back (joined_run s t) in
      record {
        count_is = count_of h;
        sized = sized_of h;
        even = words_even (joined_run s t);
        rising = subst Rising (sym e) (rising_merge (list s) (list t) h.sound.rising g.sound.rising);
        room = subst (λ (ps : List Pair). nodes_for (length ps) ≤ s.size) (sym e) room;
      }

  pub joined_covers : All (λ (p : Pair). Covers (higher s.mark t.mark) p.key) (joined_run s t)
  joined_covers =
      all_merge (λ (p : Pair). Covers (higher s.mark t.mark) p.key) (list s) (list t)
      (all_map _ _ (λ (p : Pair). covers_left s.mark t.mark p.key) (list s) h.sound.covered)
      (all_map _ _ (λ (p : Pair). covers_right s.mark t.mark p.key) (list t) g.sound.covered)

  pub pairs_are : header w pairs_word + header v pairs_word ≡ length (list s) + length (list t)
  pairs_are = ap₂ ◌+◌ (header_is h pairs_word (lit< tt)) (header_is g pairs_word (lit< tt))

  -- nodes for the pairs of both are enough
  pub enough : (pairs : ℕ) → pairs ≡ header w pairs_word + header v pairs_word → nodes_for pairs ≤ header w count_word → nodes_for (length (joined_run s t)) ≤ s.size
  enough pairs e l = omega (arith, nodes_more (length (joined_run s t)) pairs (omega (arith, length_merge (list s) (list t), pairs_are, e)), count_of h, l)

-- the greater of two options is the higher mark
greater_marked : (a b : ℕ) (r : Ordering) → MatchOrdering r (b < a) (b ≡ a) (a < b) → marked (cond (is_lt r) (Some a) (Some b)) ≡ higher (seen a) (seen b)
greater_marked a b Less l = ap seen (let e : a ≡ max a b = omega arith in e)
greater_marked a b Equal l = ap seen (let e : b ≡ max a b = omega arith in e)
greater_marked a b Greater l = ap seen (let e : b ≡ max a b = omega arith in e)

pub higher_marked : (x y : Option ℕ) → marked (ord_max (option_cmp nat_cmp) x y) ≡ higher (marked x) (marked y)
higher_marked None None = refl
higher_marked None (Some b) = refl
higher_marked (Some a) None = refl
higher_marked (Some a) (Some b) = greater_marked a b (nat_cmp b a) (ranked b a (nat_cmp b a) refl)

-- what a test that fails decides
pub no_less : {b : Bool} {P : Type 0} → b ≡ false → (P → ⊥) → Decides b P
no_less {b} {P} q n = subst (λ (v : Bool). Decides v P) (sym q) n

-- ---- the promise

module _ {w v : List ℕ} (o : List ℕ) where
  pub bad_first : (WellFormed w → ⊥) → Join w w v v o o BadArena
  bad_first b = inl (b, (refl, refl, refl, refl))

  pub bad_second : WellFormed w → (WellFormed v → ⊥) → Join w w v v o o BadArena
  bad_second f b = inr ((λ n. n f), inl (b, (refl, refl, refl, refl)))

  module _ {s t : State} (h : Holds w s) (g : Holds v t) where
    in_both : (P : State → State → Type 0) → InState w (λ s. InState v (λ t. P s t)) → P s t
    in_both P x = in_state (P s) g (in_state (λ s. InState v (P s)) h x)

    of_both : (P : State → State → Type 0) → P s t → InState w (λ s. InState v (λ t. P s t))
    of_both P p = record { state = s; holds = h; is = record { state = t; holds = g; is = p } }

    pub short : length o < 2 * (header w pairs_word + header v pairs_word) → Join w w v v o o BadSize
    short l = inr ((λ n. n (backward w s h)), inr ((λ n. n (backward v t g)), inl (of_both (λ s t. length o < 2 * (length (list s) + length (list t))) (omega (arith, l, pairs_are h g)), (refl, refl, refl, refl))))

    module _ (fits : 2 * (header w pairs_word + header v pairs_word) ≤ length o) where
      long : InState w (λ s. InState v (λ t. length o < 2 * (length (list s) + length (list t)))) → ⊥
      long x = let l = in_both (λ s t. length o < 2 * (length (list s) + length (list t))) x in omega (arith, l, fits, pairs_are h g)

      pub no_nodes : s.size < nodes_for (length (joined_run s t)) → Join w w v v o o NoRoom
      no_nodes l = inr ((λ n. n (backward w s h)), inr ((λ n. n (backward v t g)), inr (long, inl (of_both (λ s t. s.size < nodes_for (length (joined_run s t))) l, (refl, refl, refl, refl)))))

      pub done : {w' v' o' : List ℕ} → nodes_for (length (joined_run s t)) ≤ s.size → (w' ≡ words_of (joined s t)) × (v' ≡ words_of (emptied t)) × (o' ≡ laid (joined_run s t) o) → Join w w' v v' o o' Done
      done room e =
          inr (
            (λ n. n (backward w s h)),
            inr (
              (λ n. n (backward v t g)),
              inr (
                long,
                inr (
                  (λ x. let l = in_both (λ s t. s.size < nodes_for (length (joined_run s t))) x in omega (arith, l, room)),
                  record { first = s; second = t; first_holds = h; second_holds = g; room = room; left = e.0; second_left = e.1; written = e.2; said = refl },
                ),
              ),
            ),
          )
