-- The demands, of every public call.
-- Assumes nothing.
use Prim.Native.Nat.{ℕ, zero, suc, ◌+◌, ◌≤◌}
use native.Mathlib.Omega.{arith}
use mathlib.Core.Path.{◌≡◌, refl, sym, ap, ap₂, subst, ◌∙◌}
use mathlib.Core.Logic.{◌⊎◌, inl, inr, ⊎_elim, ◌↔◌}
use mathlib.Core.Bool.{Bool, true, false, cond, ◌&&◌}
use mathlib.Core.List.{List, [], ◌∷◌, ◌++◌, map}
use lib.Dec.{lit<}
use lib.ListN.{length}
use Rattle.model.specs.declared.Answer.{Answer}
use Rattle.model.specs.declared.Layout.TheVariants.{Format2}
use Rattle.model.specs.Lists.{All}
use Rattle.model.specs.Layout.{base, header, word_at, count_word, root_word, pairs_word, free_word, first_free_word, state_word, leaf, least, most, key_of}
use Rattle.model.specs.Mark.{Mark, unseen, seen_of, mark_of, mark_by, stored_mark}
use Rattle.model.specs.Words.{kind}
use Rattle.model.specs.WellFormed.{length_at, edge_at, Reached, reach_by, reach, reached, WellFormed}
use Rattle.model.specs.Promise.{Refusal, Ends}
use Rattle.model.proofs.Lists.{all_map, all_joined}
use Rattle.model.proofs.Parts.{chain_length, counted}
use Rattle.model.proofs.Decode.{state_keys}
use Rattle.model.proofs.Forward.{forward}
use Rattle.demands.specs.Plain.{Plain, empty, bringing, Made, Spent, Raises, Spending}
use Rattle.demands.specs.Stored.{held}
use Rattle.demands.specs.Call.{Speech, Call, given, made, Unchanged, Refused, Did}
use Rattle.demands.specs.Public.{Public, format, check, get, put, delete, reserve, order, list, rank, count, at, batch, restore, upgrade, load, cut_first, cut_second, join_first, join_second, first, last, seek, next, previous}
use Rattle.demands.specs.History.{Turn, Run, Standing, after, after_all, Kept, NotLower}
use Rattle.demands.specs.Demands.{AsTheMap, AnyHistory, OneEnd}
use Rattle.model.proofs.Header.{header_is, seen_is, mark_is, mark_by_lem, stored_mark_is}
use Rattle.demands.proofs.Reading.{stored_is}
use Rattle.model.proofs.Ends.{both_ways}
use Rattle.demands.proofs.Marks.{spending_none, spending_more, mark_raises, not_below}
use Rattle.demands.proofs.Lawful.{all_refused, Lawful}
use Rattle.demands.proofs.Calls as calls
use Rattle.demands.proofs.Both as both

-- ---- every public call is lawful

lawful : (c : Call) → Public c → Lawful c
lawful _ format = calls.format_lawful
lawful _ check = calls.check_lawful
lawful _ (get k) = calls.get_lawful k
lawful _ (put k v) = calls.put_lawful k v
lawful _ (delete k) = calls.delete_lawful k
lawful _ (reserve k) = calls.reserve_lawful k
lawful _ (order o) = calls.order_lawful o
lawful _ (list q o) = calls.list_lawful q o
lawful _ (batch b a) = calls.batch_lawful b a
lawful _ (rank k) = calls.rank_lawful k
lawful _ (count q) = calls.count_lawful q
lawful _ (at i) = calls.at_lawful i
lawful _ (first n) = calls.first_lawful n
lawful _ (last n) = calls.last_lawful n
lawful _ (seek n b) = calls.seek_lawful n b
lawful _ (next n c k) = calls.next_lawful n c k
lawful _ (previous n c k) = calls.previous_lawful n c k
lawful _ (restore m i) = calls.restore_lawful m i
lawful _ (upgrade w) = calls.upgrade_lawful w
lawful _ (load run) = calls.load_lawful run
lawful _ (cut_first k v) = both.cut_first_lawful k v
lawful _ (cut_second k w) = both.cut_second_lawful k w
lawful _ (join_first v o) = both.join_first_lawful v o
lawful _ (join_second w o) = both.join_second_lawful w o

pub as_the_map : AsTheMap
as_the_map c p = (lawful c p).by_map

pub one_end : OneEnd
one_end c p = (lawful c p).one_end

-- ---- refused, with no lent word changed; or done, and not refused

and_left : (a b : Bool) → a && b ≡ true → a ≡ true
and_left true b e = refl
and_left false b e = e

and_right : (a b : Bool) → a && b ≡ true → b ≡ true
and_right true b e = e
and_right false b e = both_ways e refl

ended : {A : Type 0} (s : Speech A) {R : Answer → Type 0} {D : Type 0} (rs : List Refusal) → all_refused s rs ≡ true → Ends rs R D → ((a : Answer) × (s.refused (s.refuse a) ≡ true) × R a) ⊎ D
ended s [] f d = inr d
ended s (x ∷ rs) f (inl y) = inl (x.answer, and_left _ _ f, y.1)
ended s (x ∷ rs) f (inr y) = ended s rs (and_right (s.refused (s.refuse x.answer)) _ f) y.1

abbrev Ended : (c : Call) (w w' : List ℕ) → c.promise.Lent → c.promise.Said → Type 0
Ended c w w' l r = ((c.speech.refused r ≡ true) × Unchanged c w w' l) ⊎ ((c.speech.refused r ≡ false) × Did c w w' l r)

module _ (c : Call) (v : Lawful c) (w w' : List ℕ) (l : c.promise.Lent) (r : c.promise.Said) where
  call_ended : c.promise.ends w w' l r → Ended c w w' l r
  call_ended d = ⊎_elim
      (λ (x : (a : Answer) × (c.speech.refused (c.speech.refuse a) ≡ true) × Refused c w w' l r a). inl (ap c.speech.refused x.2.says ∙ x.1, x.2.same))
      (λ (x : Did c w w' l r). go x (c.speech.refused r) refl)
      (ended c.speech (c.refusals w) (v.refusing w) (v.by_map w w' l r d))
    where
      go : Did c w w' l r → (b : Bool) → c.speech.refused r ≡ b → Ended c w w' l r
      go x true e = inl (e, x.refused_same e)
      go x false e = inr (e, x)

  refused_same : c.promise.ends w w' l r → c.speech.refused r ≡ true → Unchanged c w w' l
  refused_same d e = ⊎_elim
      (λ (x : (c.speech.refused r ≡ true) × Unchanged c w w' l). x.1)
      (λ (x : (c.speech.refused r ≡ false) × Did c w w' l r). both_ways e x.0)
      (call_ended d)

-- what is said to be no refusal was done
pub accepted : (c : Call) → Public c → (w w' : List ℕ) (l : c.promise.Lent) (r : c.promise.Said) → c.promise.ends w w' l r → c.speech.refused r ≡ false → Did c w w' l r
accepted c p w w' l r d e = ⊎_elim
    (λ (x : (c.speech.refused r ≡ true) × Unchanged c w w' l). both_ways x.0 e)
    (λ (x : (c.speech.refused r ≡ false) × Did c w w' l r). x.1)
    (call_ended c (lawful c p) w w' l r d)

-- ---- what well-formed words say of their nodes

kind_leaf : (h : ℕ) → (kind h ≡ leaf) ↔ (h ≡ 0)
kind_leaf zero = (λ e. refl, λ e. refl)
kind_leaf (suc h) = (λ e. absurd (omega arith), λ e. absurd (omega arith))

abbrev ButRoot : ℕ → Reached → Type 0
ButRoot n r = (r.node ≡ n → ⊥) → r.fewest ≡ least

lower : (n : ℕ) (l : List Reached) → All (λ (r : Reached). r.fewest ≡ least) l → All (ButRoot n) l
lower n [] a = tt
lower n (r ∷ l) a = (λ d. a.0, lower n l a.1)

filled : (w : List ℕ) (n : ℕ) (l : List Reached) → All (ButRoot n) l → All (λ (r : Reached). r.fewest ≤ length_at w r.node) l → All (λ (r : Reached). length_at w r.node ≤ most) l
    → All (λ (r : Reached). (r.node ≡ n → ⊥) → (least ≤ length_at w r.node) × (length_at w r.node ≤ most)) l
filled w n [] a b c = tt
filled w n (r ∷ l) a b c = (λ d. (rw (a.0 d) at b.0, c.0), filled w n l a.1 b.1 c.1)

module _ (w : List ℕ) where
  below_root : (h n p e : ℕ) → All (λ (r : Reached). r.fewest ≡ least) (reach w h least n p e)
  unfolding reach_by
  below_root zero n p e = (refl, tt)
  below_root (suc h) n p e = (refl, all_joined _ _ (length_at w n + 1) (λ i l. below_root h (edge_at w n i) n i))

  but_root : (h fewest n p e : ℕ) → All (ButRoot n) (reach w h fewest n p e)
  unfolding reach_by
  but_root zero fewest n p e = (λ d. absurd (d refl), tt)
  but_root (suc h) fewest n p e = (λ d. absurd (d refl), all_joined _ _ (length_at w n + 1) (λ i l. lower n (reach w h least (edge_at w n i) n i) (below_root h (edge_at w n i) n i)))

  the_root : (h fewest n p e : ℕ) → All (λ (r : Reached). length_at w r.node ≤ most) (reach w h fewest n p e) → length_at w n ≤ most
  unfolding reach_by
  the_root zero fewest n p e a = a.0
  the_root (suc h) fewest n p e a = a.0

kept_of : (n : ℕ) (s : Standing) (w : List ℕ) → WellFormed w → length w ≡ base n → held w ≡ s.plain → Spending s.spent s.plain.mark → Kept n s w
kept_of n s w f long q g =
    let h = forward w f in
    let e = ap (λ (p : Plain). p.pairs) q in
    let t = sym (stored_is h) ∙ e in
    let m = sym (stored_mark_is h) ∙ ap (λ (p : Plain). p.mark) q in
    let c : header w count_word ≡ n = omega (arith, f.sized.long_is, long) in
    record {
      formed = f;
      count_same = c;
      pairs_same = e;
      keys_same = sym (state_keys Format2 w) ∙ ap (map key_of) t;
      rising = rw t at h.sound.rising;
      pairs_counted = header_is h pairs_word (lit< tt) ∙ ap length t;
      leaves_deep = all_map _ _ (λ (r : Reached) (d : word_at w r.node state_word ≡ kind r.below). rw d (kind_leaf r.below)) (reached w) f.deep;
      others_filled = filled w (header w root_word) (reached w) (but_root w _ _ _ _ _) f.enough f.short;
      root_filled = the_root w _ _ _ _ _ f.short;
      free_counted = sym (chain_length Format2 w (header w free_word) (header w first_free_word));
      live_free = omega (arith, counted f, chain_length Format2 w (header w free_word) (header w first_free_word), c);
      seen_same = seen_is h ∙ ap seen_of m;
      mark_same = mark_is h ∙ ap mark_of m;
      spending = g;
    }

-- and back
held_of : {n : ℕ} {s : Standing} {w : List ℕ} → Kept n s w → held w ≡ s.plain
held_of {s = s} k = λ i. record { pairs = k.pairs_same i; mark = (ap₂ mark_by k.seen_same k.mark_same ∙ mark_by_lem s.plain.mark) i }

long_of : {n : ℕ} {s : Standing} {w : List ℕ} → Kept n s w → length w ≡ base n
long_of k = k.formed.sized.long_is ∙ ap base k.count_same

-- ---- a history

-- the keys spent since it began
spent_on : (b : Bool) (ks es : List Spent) (p : Plain) (m : Mark) → (b ≡ false → Spending ks p.mark) → Raises (cond b empty p).mark es m → Spending (cond b [] ks ++ es) m
spent_on true ks es p m g r = spending_more [] es unseen m spending_none r
spent_on false ks es p m g r = spending_more ks es p.mark m (g refl) r

-- what a turn makes of the list
abbrev made_by : (t : Turn) → Plain → Made t.call.promise.Said
made_by t p = made t.call t.said t.lent p

abbrev refused : Turn → Bool
refused t = t.call.speech.refused t.said

module _ (n : ℕ) (t : Turn) (s : Standing) (w w' : List ℕ) where
  -- done: from words that hold the list where the history stands, or from any words, where it begins one
  done_keeps : refused t ≡ false → length w ≡ base n → (t.call.begins ≡ false → Spending s.spent s.plain.mark) → (made_by t (held w)).plain ≡ (made_by t s.plain).plain
      → Did t.call w w' t.lent t.said → Kept n (after t s) w'
  done_keeps e z g q d =
      let m = made_by t s.plain in
      let v = (lawful t.call t.public).raises (t.call.rooms t.said t.lent) s.plain in
      rw e (kept_of n (record { plain = m.plain; spent = cond t.call.begins [] s.spent ++ m.spent }) w' d.formed (d.long_same ∙ z) (d.holds ∙ q)
      (spent_on t.call.begins s.spent m.spent s.plain m.plain.mark g v))

  keeps : Kept n s w → t.call.promise.ends w w' t.lent t.said → Kept n (after t s) w'
  keeps k d = ⊎_elim
      (λ (x : (refused t ≡ true) × Unchanged t.call w w' t.lent). rw (x.0, x.1.arena) k)
      (λ (x : (refused t ≡ false) × Did t.call w w' t.lent t.said). done_keeps x.0 (long_of k) (λ b. k.spending) (ap (λ p. (made_by t p).plain) (held_of k)) x.1)
      (call_ended t.call (lawful t.call t.public) w w' t.lent t.said d)

  begins : t.call.begins ≡ true → refused t ≡ false → length w ≡ base n → t.call.promise.ends w w' t.lent t.said → Kept n (after t s) w'
  begins b e z d = ⊎_elim
      (λ (x : (refused t ≡ true) × Unchanged t.call w w' t.lent). both_ways x.0 e)
      (λ (x : (refused t ≡ false) × Did t.call w w' t.lent t.said). done_keeps e z (λ f. both_ways b f) (same_begun b) x.1)
      (call_ended t.call (lawful t.call t.public) w w' t.lent t.said d)
    where
      same_begun : t.call.begins ≡ true → (made_by t (held w)).plain ≡ (made_by t s.plain).plain
      same_begun e = ap (λ q. (t.call.does (t.call.rooms t.said t.lent) q).plain) (ap (λ d. cond d empty (held w)) e ∙ sym (ap (λ d. cond d empty s.plain) e))

run_keeps : (n : ℕ) (s : Standing) (ts : List Turn) (w w' : List ℕ) → Kept n s w → Run ts w w' → Kept n (after_all ts s) w'
run_keeps n s [] w w' k r = subst (Kept n s) (sym r) k
run_keeps n s (t ∷ ts) w w' k r = run_keeps n (after t s) ts r.0 w' (keeps n t s w r.0 k r.1) r.2

-- ---- no call lowers the mark

module _ (c : Call) (v : Lawful c) (b : c.begins ≡ false) (w w' : List ℕ) (l : c.promise.Lent) (r : c.promise.Said) where
  done_higher : Did c w w' l r → NotLower w w'
  done_higher x =
      let h = forward w (x.was_formed b) in
      let g = forward w' x.formed in
      let e : stored_mark w' ≡ (made c r l (held w)).plain.mark = ap (λ (p : Plain). p.mark) x.holds in
      let same : given c (held w) ≡ held w = ap (λ d. cond d empty (held w)) b in
      let z = not_below (given c (held w)).mark (made c r l (held w)).plain.mark (made c r l (held w)).spent (v.raises (c.rooms r l) (held w)) in
      let m : (given c (held w)).mark ≡ stored_mark w = ap (λ (p : Plain). p.mark) same in
      record {
        seen_stays = omega (arith, seen_is h, seen_is g, ap seen_of (stored_mark_is h), ap seen_of (stored_mark_is g), ap seen_of e, ap seen_of m, z.seen_stays);
        mark_stays = omega (arith, mark_is h, mark_is g, ap mark_of (stored_mark_is h), ap mark_of (stored_mark_is g), ap mark_of e, ap mark_of m, z.mark_stays);
      }

  not_lowered : c.promise.ends w w' l r → NotLower w w'
  not_lowered d = ⊎_elim
      (λ (x : (c.speech.refused r ≡ true) × Unchanged c w w' l). rw x.1.arena (record { seen_stays = omega arith; mark_stays = omega arith }))
      (λ (x : (c.speech.refused r ≡ false) × Did c w w' l r). done_higher x.1)
      (call_ended c v w w' l r d)

begin_found : (w : List ℕ) → WellFormed w → Kept (header w count_word) (record { plain = held w; spent = bringing (stored_mark w) }) w
begin_found w f =
    kept_of (header w count_word) (record { plain = held w; spent = bringing (stored_mark w) }) w f f.sized.long_is refl (spending_more [] (bringing (stored_mark w)) unseen (stored_mark w) spending_none (mark_raises unseen (stored_mark w)))

pub any_history : AnyHistory
any_history = record {
  begun = λ n t s w w' b e z r. begins n t s w w' b e z (subst (λ x. t.call.promise.ends w x t.lent t.said) (sym r.2) r.1);
  found = λ w f. begin_found w f;
  kept = run_keeps;
  refused_same = λ c p. refused_same c (lawful c p);
  not_lowered = λ c p b. not_lowered c (lawful c p) b;
}
