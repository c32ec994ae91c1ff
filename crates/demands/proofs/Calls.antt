-- Each public call is lawful.
-- Assumes nothing.
use Prim.Native.Nat.{ℕ, ◌<◌}
use native.Mathlib.Omega.{arith}
use mathlib.Core.Path.{◌≡◌, refl, sym, ap, subst, ◌∙◌}
use mathlib.Core.Logic.{inl, inr, ⊎_elim}
use mathlib.Core.Bool.{Bool, true, false}
use mathlib.Core.List.{List, [], ◌∷◌}
use mathlib.Core.Option.{Option, some, none}
use lib.Dec.{lit<, ltb}
use lib.ListN.{length, take, length-take}
use borrow.Author.Tests.{lt-leb}
use Rattle.model.specs.declared.Answer.{Answer}
use Rattle.model.specs.declared.Answer.TheVariants.{Done, NoRoom}
use Rattle.model.specs.declared.Range.{Range}
use Rattle.model.specs.declared.Listed.{Listed}
use Rattle.model.specs.declared.Counted.{Counted}
use Rattle.model.specs.declared.Picked.{Picked}
use Rattle.model.specs.Layout.{base, header, count_word, free_word}
use Rattle.model.specs.declared.SearchBound.{SearchBound}
use Rattle.model.specs.Tree.{Pair}
use Rattle.model.specs.Search.{search}
use Rattle.model.specs.Insert.{needed}
use Rattle.model.specs.Mark.{unseen, higher, reached, stored_mark}
use Rattle.model.specs.Map.{look, range, rank as rank_of, nth, picked}
use Rattle.model.specs.Answer.{numbers_of}
use Rattle.model.specs.State as on
use Rattle.model.specs.State.{State, Reply, Order, Kind, putting, getting, deleting, reserving, unknown, kind_of, order_as, list, put_at, put_code, triples}
use Rattle.model.specs.Load.{pairs_of, last_mark, loaded}
use Rattle.model.specs.Words.{words_of}
use Rattle.model.specs.Sound.{Sound}
use Rattle.model.specs.Promise as model
use Rattle.model.specs.Promise.{Holds, bad_arena, bad_range_of, room, laid, Called, Formatted, Ran, Restored, Upgraded, Loaded, Walks}
use Rattle.model.proofs.Lists.{same_or}
use Rattle.model.proofs.Maps.{bad_panics, panics_bad}
use Rattle.model.proofs.Calls.{get_map, Reached, Reserved, reserve_map, NoneLeft, order_sound, batch_sound, formatted_sound, restored_sound}
use Rattle.model.proofs.Backward.{one_state, backward}
use Rattle.model.proofs.Unique.{one_format, one_listing, one_tell, one_at, one_batch, one_restore, one_load, one_walk}
use Rattle.model.specs.Cursor as cursor
use Rattle.model.specs.Cursor.{Stand, before, past, Cursor, Moved}
use Rattle.walking.specs.Found.{first_of, last_of, sought_in, next_of, previous_of, LeftOn, Lands}
use Rattle.walking.proofs.Found.{first_lands, last_lands, seek_lands, Stepped, next_ends, previous_ends}
use Rattle.model.proofs.Upgrades.{one_upgrade}
use Rattle.loading.proofs.Loads.{load_list, loaded_sound}
use Rattle.demands.specs.Plain.{only, ordered, ordered_all, put_to, get_from, delete_from, reserve_on, room_by, rooms_by}
use Rattle.demands.specs.Stored.{stored, held}
use Rattle.demands.specs.Call.{refusal, Call, made, ByMap, Refused, Did}
use Rattle.demands.specs.Calls as call
use Rattle.demands.specs.Calls.{Lacks, still, InTurn}
use Rattle.model.proofs.Header.{stored_mark_is, header_is}
use Rattle.demands.proofs.Reading.{plain_of, stored_is, held_is}
use Rattle.demands.proofs.Orders.{with_room}
use Rattle.demands.proofs.Steps.{Meets, NoneFor, get_meets, delete_meets, reserve_meets, none_there, put_meets, order_meets, order_refuses, batch_size, batch_plain, batch_said}
use Rattle.model.proofs.Ends.{both_ways}
use Rattle.demands.proofs.Marks.{put_raises, reserve_raises, order_raises, batch_raises, mark_raises}
use Rattle.demands.proofs.Lawful.{Lawful, kept_words, long_is, Left, left_of, called_did, ends_map, refused_alone, refused_beside, one_alone, state_lawful, reply_refused}

-- ---- check, get, delete, reserve

-- a state that is left leaves the words
same_words : {w w' : List ℕ} {s t : State} → Holds w s → w' ≡ words_of t → t ≡ s → w' ≡ w
same_words h e q = e ∙ ap words_of q ∙ sym h.words

pub check_lawful : Lawful call.check
check_lawful = state_lawful on.check (λ w. []) (only Done) (λ w w'. w' ≡ w)
    (λ w w' r x. called_did _ _ (only Done) _ x (record { answered = refl; plain_is = refl; sound = x.holds.sound; size_is = refl; still = λ e. refl }) (same_words x.holds x.left refl))
    (λ w. refl) (λ p. refl)

module _ (k : ℕ) where
  pub get_lawful : Lawful (call.get k)
  get_lawful = state_lawful (on.get k) (λ w. []) (get_from k) (λ w w'. w' ≡ w)
      (λ w w' r x. let o = x.holds.sound in called_did _ _ (get_from k) _ x (get_meets k x.state o) (same_words x.holds x.left (ap (λ (d : Reply). d.state) (get_map k x.state o))))
      (λ w. refl) (λ p. refl)

  pub delete_lawful : Lawful (call.delete k)
  delete_lawful = state_lawful (on.delete k) (λ w. []) (delete_from k) (λ w w'. Unit {0}) (λ w w' r x. called_did _ _ (delete_from k) _ x (delete_meets k x.state x.holds.sound) tt) (λ w. refl) (λ p. refl)

  pub reserve_lawful : Lawful (call.reserve k)
  reserve_lawful = state_lawful (on.reserve k) (λ w. call.spent k w ∷ []) (reserve_on k) (λ w w'. Unit {0})
      (λ w w' r x.
      let s = x.state in
      let m : reached k (stored_mark w) ≡ reached k s.mark = ap (reached k) (stored_mark_is x.holds) in
      ⊎_elim
      (λ (l : Reached k s (on.reserve k s)). inl (m ∙ l.not_above, reply_refused _ _ _ _ x l.refused))
      (λ (d : Reserved k s (on.reserve k s)). inr ((λ e. both_ways e (m ∙ d.above)), called_did _ _ (reserve_on k) _ x (reserve_meets k s x.holds.sound) tt))
      (reserve_map k s x.holds.sound))
      (λ w. refl) (λ p. reserve_raises k p)

-- ---- orders, and the put, which may lack nodes

module _ (o : Order) {w : List ℕ} {s : State} (h : Holds w s) where
  -- the state lacks nodes: so say the words
  lacks_of : {d : Reply} → NoneLeft o.key s d → Lacks o.key w
  lacks_of l = record {
    state = s;
    holds = h;
    edge = l.edge;
    absent = ap (look o.key) (stored_is h) ∙ none_there o.key s h.sound l;
    found = l.found;
    lacks = omega (arith, l.lacks, header_is h free_word (lit< tt));
  }

  -- and a put that lacks nodes is refused
  lacking : kind_of o.code ≡ putting → Lacks o.key w → (on.order o s).answer ≡ NoRoom
  lacking c l =
      let f : length s.free < needed l.edge = omega (arith, l.lacks, header_is h free_word (lit< tt)) in
      let e = one_state l.holds h in
      ap (λ x. (order_as x o.key o.val s).answer) c ∙ (ap (λ p. (put_at o.key o.val s p).answer) (ap (λ (t : State). search o.key t.whole) (sym e) ∙ l.found) ∙ rw (lt-leb (needed l.edge) (length s.free) f, put_at))

  -- with room it is not
  not_lacking : Meets s (on.order o s) (ordered true o (plain_of s)) → kind_of o.code ≡ putting → Lacks o.key w → ⊥
  not_lacking m c l = both_ways (with_room o (plain_of s)) (ap (λ a. room_by (numbers_of a).number) (sym m.answered ∙ lacking c l))

module _ (k v : ℕ) where
  abbrev as_order : Order
  as_order = record { code = put_code; key = k; val = v }

  pub put_lawful : Lawful (call.put k v)
  put_lawful = state_lawful (on.put k v) (λ w. call.no_room k w ∷ []) (put_to true k v) (λ w w'. Unit {0})
      (λ w w' r x.
      let s = x.state in
      ⊎_elim
      (λ (l : NoneLeft k s (on.put k v s)). inl (lacks_of as_order x.holds l, reply_refused _ _ _ _ x l.refused))
      (λ (m : Meets s (on.put k v s) (put_to true k v (plain_of s))). inr (not_lacking as_order x.holds m refl, called_did _ _ (put_to true k v) _ x m tt))
      (put_meets k s x.holds.sound v))
      (λ w. refl) (λ p. put_raises true k v p)

module _ (o : Order) where
  -- an order that only reads leaves the state
  reads_still : (s : State) → Sound s → still (kind_of o.code) ≡ true → (on.order o s).state ≡ s
  reads_still s u = by (kind_of o.code)
    where
      by : (x : Kind) → still x ≡ true → (order_as x o.key o.val s).state ≡ s
      by putting n = both_ways n refl
      by getting n = ap (λ (d : Reply). d.state) (get_map o.key s u)
      by deleting n = both_ways n refl
      by reserving n = both_ways n refl
      by unknown n = refl

  pub order_lawful : Lawful (call.order o)
  order_lawful = state_lawful (on.order o) (λ w. call.no_room_for o w ∷ []) (ordered true o) (λ w w'. still (kind_of o.code) ≡ true → w' ≡ w)
      (λ w w' r x.
      let s = x.state in
      let u = x.holds.sound in
      ⊎_elim
      (λ (l : NoneFor o s (on.order o s)). inl ((l.a_put, lacks_of o x.holds l.none_left), reply_refused _ _ _ _ x l.none_left.refused))
      (λ (m : Meets s (on.order o s) (ordered true o (plain_of s))). inr ((λ l. not_lacking o x.holds m l.0 l.1), called_did _ _ (ordered true o) _ x m (λ q. same_words x.holds x.left (reads_still s u q))))
      (order_meets o s u))
      (λ w. refl) (λ p. order_raises true o p)

-- ---- formatting

pub format_lawful : Lawful call.format
format_lawful = record {
  by_map = λ w w' l r. ends_map ((call.format).refusals w) (refused_alone call.format refl) (λ n x. did x);
  one_end = λ w w₁ w₂ l₁ l₂ r₁ r₂ x y. one_alone (one_format w x y);
  refusing = λ w. refl;
  raises = λ rooms p. refl;
}
  where
    did : {w w' : List ℕ} {r : Answer} → Formatted w w' r → Did call.format w w' tt r
    did {w' = w'} x =
        let h = kept_words (formatted_sound x.count x.sized.some x.sized.few) x.left in
        record {
          was_formed = λ e. both_ways refl e;
          formed = backward w' (on.formatted x.count) h;
          long_same = long_is h ∙ sym x.sized.long_is;
          says = x.said;
          holds = held_is h;
          leaves = tt;
          refused_same = λ e. both_ways e (ap refusal x.said);
        }

-- ---- listing

pub list_lawful : (q : Range) (o : List ℕ) → Lawful (call.list q o)
list_lawful q o = record {
  by_map = λ w w' o' r d. go d;
  one_end = λ w w₁ w₂ o₁ o₂ r₁ r₂ x y. one_listing q w o x y;
  refusing = λ w. refl;
  raises = λ rooms p. refl;
}
  where
    go : {w w' o' : List ℕ} {r : Listed} → model.Listing q w w' o o' r → ByMap (call.list q o) w w' o' r
    go (inl x) = inl (x.0, refused_beside (call.list q o) _ x.1)
    go (inr (n, inl x)) = inr (n, inl (bad_panics q x.0, refused_beside (call.list q o) _ x.1))
    go {w} {w'} {o'} {r} (inr (n, inr (m, x))) =
        let e = sym (stored_is x.holds) in
        let f = backward w x.state x.holds in
        inr (
          n,
          inr (
            (λ p. m (panics_bad q p)),
            record {
              was_formed = λ b. f;
              formed = rw x.left f;
              long_same = ap length x.left;
              says = x.said ∙ ap {B = Listed} (λ l. record { answer = Done; wrote = length (take (room o) (range q l)); more = ltb (room o) (length (range q l)) }) e ∙ ap {B = Listed} (λ n. record { answer = Done; wrote = n; more = ltb (room o) (length (range q (stored w))) }) (length-take (room o) (range q (stored w)));
              holds = ap held x.left;
              leaves = (x.left, x.written ∙ ap (λ l. laid (take (room o) (range q l)) o) e);
              refused_same = λ b. both_ways b (ap (λ (a : Listed). refusal a.answer) x.said);
            },
          ),
        )

-- ---- rank, count, the pair at a rank

-- a number told of the pairs
tell_did : (c : Call) {w w' : List ℕ} {r : c.promise.Said} {l : c.promise.Lent} {s : State} → c.begins ≡ false → Holds w s → w' ≡ w → r ≡ (made c r l (held w)).said → (made c r l (held w)).plain ≡ held w → c.leaves w w' l → c.speech.refused r ≡ false → Did c w w' l r
tell_did c {w} {s = s} b h e u p v n =
    let f = backward w s h in
    record { was_formed = λ z. f; formed = rw e f; long_same = ap length e; says = u; holds = ap held e ∙ sym p; leaves = v; refused_same = λ z. both_ways z n }

pub rank_lawful : (k : ℕ) → Lawful (call.rank k)
rank_lawful k = record {
  by_map = λ w w' l r. ends_map ((call.rank k).refusals w) (refused_alone (call.rank k) refl) (λ n x. tell_did (call.rank k) refl x.holds x.left (x.said ∙ ap {B = Counted} (λ ps. record { answer = Done; number = rank_of k ps }) (sym (stored_is x.holds))) refl x.left (ap (λ (a : Counted). refusal a.answer) x.said));
  one_end = λ w w₁ w₂ l₁ l₂ r₁ r₂ x y. let e = one_tell (bad_arena w ∷ []) (rank_of k) w x y in (e.0, refl, e.1);
  refusing = λ w. refl;
  raises = λ rooms p. refl;
}

pub count_lawful : (q : Range) → Lawful (call.count q)
count_lawful q = record {
  by_map = λ w w' l r d. go d;
  one_end = λ w w₁ w₂ l₁ l₂ r₁ r₂ x y. let e = one_tell (bad_arena w ∷ bad_range_of q ∷ []) (λ ps. length (range q ps)) w x y in (e.0, refl, e.1);
  refusing = λ w. refl;
  raises = λ rooms p. refl;
}
  where
    go : {w w' : List ℕ} {r : Counted} → model.Count q w w' r → ByMap (call.count q) w w' tt r
    go (inl x) = inl (x.0, refused_alone (call.count q) refl _ x.1)
    go (inr (n, inl x)) = inr (n, inl (bad_panics q x.0, refused_alone (call.count q) refl _ x.1))
    go (inr (n, inr (m, x))) =
        inr (n, inr ((λ p. m (panics_bad q p)), tell_did (call.count q) refl x.holds x.left (x.said ∙ ap {B = Counted} (λ ps. record { answer = Done; number = length (range q ps) }) (sym (stored_is x.holds))) refl x.left (ap (λ (a : Counted). refusal a.answer) x.said)))

picked_done : (o : Option Pair) → refusal (picked o).answer ≡ false
picked_done none = refl
picked_done (some p) = refl

pub at_lawful : (i : ℕ) → Lawful (call.at i)
at_lawful i = record {
  by_map = λ w w' l r. ends_map ((call.at i).refusals w) (refused_alone (call.at i) refl) (λ n x. tell_did (call.at i) refl x.holds x.left (x.said ∙ ap (λ ps. picked (nth i ps)) (sym (stored_is x.holds))) refl x.left (ap (λ (a : Picked). refusal a.answer) x.said ∙ picked_done (nth i (list x.state))));
  one_end = λ w w₁ w₂ l₁ l₂ r₁ r₂ x y. let e = one_at i w x y in (e.0, refl, e.1);
  refusing = λ w. refl;
  raises = λ rooms p. refl;
}

-- ---- the walking cursor

-- a move that lands on what the list has
lands_did : (f : State → Moved) (n : ℕ) (end : Stand) (g : List Pair → Option Pair) {w w' : List ℕ} {c' : Cursor} {r : Picked} → (x : Walks f w w' c' r) → Lands w n end (g (list x.state)) (f x.state)
    → (r ≡ picked (g (stored w))) × call.Left n end g w w' c' × (refusal r.answer ≡ false)
lands_did f n end g {w} x y =
    let e = sym (stored_is x.holds) in (
      x.said ∙ (y.finds ∙ ap (λ l. picked (g l)) e),
      (x.left, ap (λ (d : Cursor). d.changes) x.stands ∙ y.counts, subst (λ (d : Cursor). LeftOn w end (g (stored w)) d.stand) (sym x.stands) (subst (λ l. LeftOn w end (g l) (f x.state).cursor.stand) e y.stands)),
      ap (λ (a : Picked). refusal a.answer) (x.said ∙ y.finds) ∙ picked_done (g (list x.state)),
    )

pub first_lawful : (n : ℕ) → Lawful (call.first n)
first_lawful n = record {
  by_map = λ w w' c r. ends_map ((call.first n).refusals w) (refused_beside (call.first n)) (λ z x. let d = lands_did (cursor.first n) n past first_of x (first_lands x.holds n) in tell_did (call.first n) refl x.holds x.left d.0 refl d.1 d.2);
  one_end = λ w w₁ w₂ c₁ c₂ r₁ r₂ x y. one_walk (cursor.first n) _ w x y;
  refusing = λ w. refl;
  raises = λ rooms p. refl;
}

pub last_lawful : (n : ℕ) → Lawful (call.last n)
last_lawful n = record {
  by_map = λ w w' c r. ends_map ((call.last n).refusals w) (refused_beside (call.last n)) (λ z x. let d = lands_did (cursor.last n) n before last_of x (last_lands x.holds n) in tell_did (call.last n) refl x.holds x.left d.0 refl d.1 d.2);
  one_end = λ w w₁ w₂ c₁ c₂ r₁ r₂ x y. one_walk (cursor.last n) _ w x y;
  refusing = λ w. refl;
  raises = λ rooms p. refl;
}

pub seek_lawful : (n : ℕ) (b : SearchBound) → Lawful (call.seek n b)
seek_lawful n b = record {
  by_map = λ w w' c r. ends_map ((call.seek n b).refusals w) (refused_beside (call.seek n b)) (λ z x. let d = lands_did (cursor.seek n b) n past (sought_in b) x (seek_lands x.holds n b) in tell_did (call.seek n b) refl x.holds x.left d.0 refl d.1 d.2);
  one_end = λ w w₁ w₂ c₁ c₂ r₁ r₂ x y. one_walk (cursor.seek n b) _ w x y;
  refusing = λ w. refl;
  raises = λ rooms p. refl;
}

-- a step: refused as stale, or it lands
module _ (n : ℕ) (c : Cursor) (k : ℕ) where
  pub next_lawful : Lawful (call.next n c k)
  next_lawful = record {
    by_map = λ w w' l r d. ends_map (bad_arena w ∷ []) (refused_beside (call.next n c k)) (λ z x. go x (next_ends x.holds n c k d.0)) d.1;
    one_end = λ w w₁ w₂ c₁ c₂ r₁ r₂ x y. one_walk (cursor.next n c) c w x.1 y.1;
    refusing = λ w. refl;
    raises = λ rooms p. refl;
  }
    where
      go : {w w' : List ℕ} {c' : Cursor} {r : Picked} (x : Walks (cursor.next n c) w w' c' r) → Stepped w n past (next_of c.stand k (list x.state)) c (cursor.next n c x.state) → model.Ends (call.stale_cursor n c w ∷ []) (Refused (call.next n c k) w w' c' r) (Did (call.next n c k) w w' c' r)
      go x (inl y) = inl (y.0, refused_beside (call.next n c k) _ (x.left, x.stands ∙ ap (λ (m : Moved). m.cursor) y.1, x.said ∙ ap (λ (m : Moved). m.found) y.1))
      go x (inr y) = let d = lands_did (cursor.next n c) n past (next_of c.stand k) x y.1 in inr (y.0, tell_did (call.next n c k) refl x.holds x.left d.0 refl d.1 d.2)

  pub previous_lawful : Lawful (call.previous n c k)
  previous_lawful = record {
    by_map = λ w w' l r d. ends_map (bad_arena w ∷ []) (refused_beside (call.previous n c k)) (λ z x. go x (previous_ends x.holds n c k d.0)) d.1;
    one_end = λ w w₁ w₂ c₁ c₂ r₁ r₂ x y. one_walk (cursor.previous n c) c w x.1 y.1;
    refusing = λ w. refl;
    raises = λ rooms p. refl;
  }
    where
      go : {w w' : List ℕ} {c' : Cursor} {r : Picked} (x : Walks (cursor.previous n c) w w' c' r) → Stepped w n before (previous_of c.stand k (list x.state)) c (cursor.previous n c x.state) → model.Ends (call.stale_cursor n c w ∷ []) (Refused (call.previous n c k) w w' c' r) (Did (call.previous n c k) w w' c' r)
      go x (inl y) = inl (y.0, refused_beside (call.previous n c k) _ (x.left, x.stands ∙ ap (λ (m : Moved). m.cursor) y.1, x.said ∙ ap (λ (m : Moved). m.found) y.1))
      go x (inr y) = let d = lands_did (cursor.previous n c) n before (previous_of c.stand k) x y.1 in inr (y.0, tell_did (call.previous n c k) refl x.holds x.left d.0 refl d.1 d.2)

-- ---- batch

in_turn : (os : List Order) {w : List ℕ} {s : State} → Holds w s → InTurn os w (words_of (on.after_all os s)) (on.answers os s)
in_turn [] h = (sym h.words, refl)
in_turn (o ∷ os) {w} {s} h =
    let d = on.order o s in
    record {
      between = words_of d.state;
      answer = d.answer;
      others = on.answers os d.state;
      as_single = inr (λ b. b (backward w s h), record { state = s; holds = h; left = refl; said = refl });
      formed = backward _ _ (kept_words (order_sound o s h.sound) refl);
      refused = order_refuses o s h.sound;
      written = refl;
      rest = in_turn os (kept_words (order_sound o s h.sound) refl);
    }

pub batch_lawful : (b a : List ℕ) → Lawful (call.batch b a)
batch_lawful b a = record {
  by_map = λ w w' a' r. ends_map ((call.batch b a).refusals w) (refused_beside (call.batch b a)) (λ n x. did x);
  one_end = λ w w₁ w₂ a₁ a₂ r₁ r₂ x y. one_batch b w a x y;
  refusing = λ w. refl;
  raises = λ rooms p. batch_raises rooms (triples b) p;
}
  where
    did : {w w' a' : List ℕ} {r : Answer} → Ran b w w' a a' r → Did (call.batch b a) w w' a' r
    did {w} {w'} {a'} x =
        let s = x.state in
        let os = triples b in
        let o = x.holds.sound in
        let e = sym (held_is x.holds) in
        let q : plain_of (on.after_all os s) ≡ (ordered_all (rooms_by a') os (held w)).plain = rw x.written (batch_plain os s o ∙ ap (λ p. (ordered_all (rooms_by (on.answers os s)) os p).plain) e) in
        let z : a' ≡ (ordered_all (rooms_by a') os (held w)).said = rw x.written (batch_said os s o ∙ ap (λ p. (ordered_all (rooms_by (on.answers os s)) os p).said) e) in
        let g : Left w w' (ordered_all (rooms_by a') os (held w)).plain = left_of x.holds (batch_sound os s o) x.left (batch_size os s o) q in
        record {
          was_formed = λ y. g.was_formed;
          formed = g.formed;
          long_same = g.long_same;
          says = x.said;
          holds = g.holds;
          leaves = (z, rw (x.left, x.written) (in_turn os x.holds));
          refused_same = λ y. both_ways y (ap refusal x.said);
        }

-- ---- restore

pub restore_lawful : (meant : Bool) (i : List ℕ) → Lawful (call.restore meant i)
restore_lawful meant i = record {
  by_map = λ w w' l r. ends_map ((call.restore meant i).refusals w) (refused_alone (call.restore meant i) refl) (λ n x. did n.0 x);
  one_end = λ w w₁ w₂ l₁ l₂ r₁ r₂ x y. one_alone (one_restore meant w i x y);
  refusing = λ w. refl;
  raises = λ rooms p. mark_raises p.mark (stored_mark i);
}
  where
    did : {w w' : List ℕ} {r : Answer} → ((length i ≡ length w → ⊥) → ⊥) → Restored w w' i r → Did (call.restore meant i) w w' tt r
    did {w} n x =
        let s = x.state in
        let t = x.image in
        let y = x.image_holds in
        let long : length i ≡ length w = ⊎_elim (λ e. e) (λ d. absurd (n d)) (same_or (length i) (length w)) in
        let q : plain_of (on.restored s t) ≡ record { pairs = stored i; mark = higher (stored_mark w) (stored_mark i) } = λ j. record { pairs = sym (stored_is y) j; mark = higher (sym (stored_mark_is x.holds) j) (sym (stored_mark_is y) j) } in
        let g = left_of x.holds (restored_sound s t y.sound) x.left (omega (arith, long, long_is x.holds, long_is y)) q in
        record {
          was_formed = λ b. g.was_formed;
          formed = g.formed;
          long_same = g.long_same;
          says = x.said;
          holds = g.holds;
          leaves = tt;
          refused_same = λ b. both_ways b (ap refusal x.said);
        }

-- ---- upgrade

pub upgrade_lawful : (w : List ℕ) → Lawful (call.upgrade w)
upgrade_lawful w = record {
  by_map = λ v v' l r. ends_map ((call.upgrade w).refusals v) (refused_alone (call.upgrade w) refl) (λ n x. did n.1.0 x);
  one_end = λ v v₁ v₂ l₁ l₂ r₁ r₂ x y. one_alone (one_upgrade w v x y);
  refusing = λ v. refl;
  raises = λ rooms p. mark_raises unseen (stored_mark w);
}
  where
    did : {v v' : List ℕ} {r : Answer} → ((length v ≡ base (header w count_word) → ⊥) → ⊥) → Upgraded w v v' r → Did (call.upgrade w) v v' tt r
    did {v} {v'} n x =
        let h = kept_words x.holds.sound x.left in
        let long : length v ≡ base (header w count_word) = ⊎_elim (λ e. e) (λ d. absurd (n d)) (same_or (length v) (base (header w count_word))) in
        record {
          was_formed = λ e. both_ways refl e;
          formed = backward v' x.state h;
          long_same = long_is h ∙ ap base (sym (header_is x.holds count_word (lit< tt))) ∙ sym long;
          says = x.said;
          holds = held_is h ∙ sym (held_is x.holds);
          leaves = tt;
          refused_same = λ b. both_ways b (ap refusal x.said);
        }

-- ---- load

pub load_lawful : (run : List ℕ) → Lawful (call.load run)
load_lawful run = record {
  by_map = λ w w' l r. ends_map ((call.load run).refusals w) (refused_alone (call.load run) refl) (λ n x. did x);
  one_end = λ w w₁ w₂ l₁ l₂ r₁ r₂ x y. one_alone (one_load run w x y);
  refusing = λ w. refl;
  raises = λ rooms p. mark_raises unseen (last_mark (pairs_of run));
}
  where
    did : {w w' : List ℕ} {r : Answer} → Loaded run w w' r → Did (call.load run) w w' tt r
    did {w} {w'} x =
        let ps = pairs_of run in
        let h : Holds w' (loaded x.count ps) = kept_words (loaded_sound x.count ps x.rising x.room x.sized.few) x.left in
        record {
          was_formed = λ e. both_ways refl e;
          formed = backward w' (loaded x.count ps) h;
          long_same = long_is h ∙ sym x.sized.long_is;
          says = x.said;
          holds = held_is h ∙ (λ i. record { pairs = load_list ps (last_mark ps) x.count i; mark = last_mark ps });
          leaves = tt;
          refused_same = λ b. both_ways b (ap refusal x.said);
        }
