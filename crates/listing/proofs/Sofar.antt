-- A listing on its way: what it has written, and what is left.
-- Assumes nothing.
use borrow.Author.Tests.{lt-ltb, le-ltb}
use Rattle.model.specs.declared.SearchBound.{SearchBound}
use Rattle.model.specs.declared.Range.{Range}
use Rattle.model.specs.declared.Answer.TheVariants.{Done}
use Rattle.model.specs.declared.Listed.{Listed}
use Rattle.model.specs.declared.Page.{Page}
use Rattle.model.specs.Answer.{said_listed}
use Rattle.model.specs.Tree.{Pair, Whole, plug, after}
use Rattle.model.specs.Search.{Spot, at, gap}
use Rattle.model.specs.Walk.{next_kv, next_edge}
use Rattle.model.specs.Range.{to_end}
use Rattle.model.specs.Map.{up_to}
use Rattle.model.specs.State.{State, listing, more_remain}
use Rattle.model.specs.Sound.{Sound}
use Rattle.model.specs.Promise.{pair_words, laid, room}
use Rattle.model.proofs.Walks.{Ahead, next_kv_lem, next_edge_lem, start_edge, start_parts, range_is}
use Rattle.slices.proofs.Laws.{set_two}
use Rattle.search.specs.declared.Handle.{Handle}
use Rattle.search.specs.Results.{leaf_edge}
use Rattle.std.proofs.Common.{Ok, Some, None, is_some, ℕ, zero, suc, ◌+◌, ◌*◌, ◌≤◌, ◌<◌, div-add-mod', arith, ◌≡◌, refl, sym, ap, ap₂, ◌∙◌, subst, Bool, true, false, List, [], ◌∷◌, ◌++◌, append_assoc, append-nil, ltb, take_at, length, take, drop, set, length-append}
use Rattle.std.specs.Bool.{then_some}
use Rattle.std.specs.Option.{MatchOption}
use Rattle.navigate.specs.Places.{EdgeAt, KvAt, stepped}
use Rattle.navigate.proofs.Pairs.{Placed, InTree, step_placed}
use Rattle.node.specs.declared.Kv.{Kv}
use Rattle.node.specs.Reading.{pair_of}
use Rattle.listing.specs.Heads.{Head, HeadOf, HeadUpTo}
use Rattle.listing.specs.Written.{Lays}

-- ---- pairs laid over words

pub words_length : (ps : List Pair) → length (pair_words ps) ≡ 2 * length ps
words_length [] = refl
words_length (p ∷ ps) = omega (arith, words_length ps)

pairs_append : (ps qs : List Pair) → pair_words (ps ++ qs) ≡ pair_words ps ++ pair_words qs
pairs_append [] qs = refl
pairs_append (p ∷ ps) qs = ap (λ (l : List ℕ). p.key ∷ p.val ∷ l) (pairs_append ps qs)

pub laid_none : (o : List ℕ) → o ≡ laid [] o
unfolding laid
laid_none o = refl

pub laid_more : (ps : List Pair) (p : Pair) (o : List ℕ) (n : ℕ) → length ps ≡ n → 2 * n + 2 ≤ length o → set (set (laid ps o) (2 * n) p.key) (2 * n + 1) p.val ≡ laid (ps ++ p ∷ []) o
unfolding laid
laid_more ps p o n e l =
    ap (λ (j : ℕ). set (set (pair_words ps ++ drop (2 * j) o) (2 * n) p.key) (2 * n + 1) p.val) e
    ∙ (set_two (pair_words ps) p.key p.val o (2 * n) (words_length ps ∙ ap (λ (j : ℕ). 2 * j) e) l
    ∙ ap₂ (λ (a : List ℕ) (j : ℕ). a ++ drop j o) (sym (pairs_append ps (p ∷ []))) (let z : 2 * n + 2 ≡ 2 * length (ps ++ p ∷ []) = omega (arith, length-append ps (p ∷ [])) in z))

take_whole : (l : List Pair) (k : ℕ) → length l ≤ k → take k l ≡ l
take_whole [] zero u = refl
take_whole [] (suc k) u = refl
take_whole (x ∷ l) zero u = absurd (omega arith)
take_whole (x ∷ l) (suc k) u = ap (λ (m : List Pair). x ∷ m) (take_whole l k (omega arith))

-- ---- the walk

-- n pairs of all are written over the first words o₀; what is left lies after the edge d
pub record Sofar (s : State) (all : List Pair) (end : SearchBound) (o₀ o : List ℕ) (n : ℕ) (d : Handle) : Type 0 where
  pub edge : EdgeAt s d
  pub done : List Pair
  pub split : all ≡ done ++ up_to end (after edge.way)
  pub count : length done ≡ n
  pub words : o ≡ laid done o₀

pub sofar_start : {s : State} (end : SearchBound) (o₀ : List ℕ) {d : Handle} (y : EdgeAt s d) → Sofar s (up_to end (after y.way)) end o₀ o₀ 0 d
sofar_start end o₀ y = record { edge = y; done = []; split = refl; count = refl; words = laid_none o₀ }

-- the pair in sight is the first of those after the edge; those that follow it lie after the next edge
pub record Sight {s : State} {e : Handle} (y : EdgeAt s e) (d : Handle) : Type 0 where
  pub kv : KvAt s d
  pub ahead : after y.way ≡ kv.item.pair ∷ after (next_edge kv.ctx kv.no kv.left kv.hole kv.item kv.right)

ahead_in : (w : Whole) (ps : List Pair) (p : Spot) → Ahead w ps p → InTree w p
ahead_in w ps (gap c) y = tt
ahead_in w ps (at c n l e x r) y = y.0

pub sight : {s : State} {e : Handle} (y : EdgeAt s e) (d : Handle) → Some d ≡ stepped (next_kv y.way) → Sight y d
sight {s} y d q =
    let a : Ahead s.whole (after y.way) (next_kv y.way) = subst (λ (w : Whole). Ahead w (after y.way) (next_kv y.way)) y.whole (next_kv_lem y.way) in
    let p : Placed s (next_kv y.way) d = step_placed (next_kv y.way) d q (ahead_in s.whole (after y.way) (next_kv y.way) a) in
    let k = p.kv in
    record { kv = k; ahead = (subst (Ahead s.whole (after y.way)) p.same a).1 ∙ ap (λ (l : List Pair). k.item.pair ∷ l) (sym (next_edge_lem k.ctx k.no k.left k.hole k.item k.right).0) }

pub no_sight : {s : State} {e : Handle} (y : EdgeAt s e) → None ≡ stepped (next_kv y.way) → after y.way ≡ []
no_sight y q = go (next_kv y.way) (next_kv_lem y.way) q
  where
    go : (p : Spot) → Ahead (plug y.way tt) (after y.way) p → None ≡ stepped p → after y.way ≡ []
    go (gap c) a e = a
    go (at c n l x z r) a e = let f : ◌≡◌ {A = ℕ} 0 1 = cc in absurd (omega arith)

-- the pair in sight, with the edge after it
pub peeked : {s : State} {e d : Handle} (y : EdgeAt s e) (v : Sight y d) (k x : ℕ) (f : Handle) → k ≡ v.kv.item.pair.key → x ≡ v.kv.item.pair.val → f ≡ leaf_edge (next_edge v.kv.ctx v.kv.no v.kv.left v.kv.hole v.kv.item v.kv.right)
    → HeadOf s (after y.way) (Some (record { 0 = k; 1 = x }, f))
peeked y v k x f ek ex ef =
    let a = v.kv in
    let next = next_edge a.ctx a.no a.left a.hole a.item a.right in
    (record { way = next; whole = (next_edge_lem a.ctx a.no a.left a.hole a.item a.right).1 ∙ a.whole; is = ef }, v.ahead ∙ (λ i. record { key = sym ek i; val = sym ex i } ∷ after next))

-- of a head that the end admits, and of one that it does not
pub within : (end : SearchBound) {s : State} {ps : List Pair} (x : Kv × Handle) (b : Bool) → b ≡ to_end end x.0.0 → HeadOf s ps (Some x) → HeadUpTo end s ps (then_some b x)
within end x true q h = (h.0, ap (up_to end) h.1 ∙ rw (sym q) refl)
within end x false q h = ap (up_to end) h.1 ∙ rw (sym q) refl

pub filtered : {F : Kv × Handle → Bool → Type 0} (end : SearchBound) (s : State) (ps : List Pair) (h r : Head) → HeadOf s ps h → ((x : Kv × Handle) (b : Bool) → F x b → b ≡ to_end end x.0.0)
    → MatchOption h (r ≡ None) (λ x. (b : Bool) × F x b × (r ≡ then_some b x)) → HeadUpTo end s ps r
filtered end s ps (Some x) r y f m = subst (HeadUpTo end s ps) (sym m.2) (within end x m.0 (f x m.0 m.1) y)
filtered end s ps None r y f m = subst (HeadUpTo end s ps) (sym m) (ap (up_to end) y)

module _ {s : State} {all : List Pair} {end : SearchBound} {o₀ o : List ℕ} {n : ℕ} {d : Handle} (y : Sofar s all end o₀ o n d) where
  lays : (more : Bool) → take (room o₀) all ≡ y.done → more ≡ ltb (room o₀) (length all) → Lays all o₀ o (record { wrote = n; more = more })
  lays more t m = record { written = y.words ∙ ap (λ (l : List Pair). laid l o₀) (sym t); said = ap₂ (λ (n : ℕ) (b : Bool). record { wrote = n; more = b }) (sym (ap length t ∙ y.count)) m }

  -- no pair of the range is left
  pub all_told : n ≤ room o₀ → up_to end (after y.edge.way) ≡ [] → Lays all o₀ o (record { wrote = n; more = false })
  all_told l q =
      let a : all ≡ y.done = y.split ∙ (ap (λ (m : List Pair). y.done ++ m) q ∙ append-nil y.done) in
      lays false (ap (take (room o₀)) a ∙ take_whole y.done (room o₀) (omega (arith, y.count))) (sym (le-ltb (room o₀) (length all) (omega (arith, ap length a, y.count))))

  -- one is left, and no room
  room_told : n ≡ room o₀ → (p : Pair) (ps : List Pair) → up_to end (after y.edge.way) ≡ p ∷ ps → Lays all o₀ o (record { wrote = n; more = true })
  room_told l p ps q =
      let a : all ≡ y.done ++ p ∷ ps = y.split ∙ ap (λ (m : List Pair). y.done ++ m) q in
      lays true (ap (take (room o₀)) a ∙ take_at y.done (p ∷ ps) (room o₀) (y.count ∙ l)) (sym (lt-ltb (room o₀) (length all) (omega (arith, ap length a ∙ length-append y.done (p ∷ ps), y.count))))

  -- the room is full
  in_room : n ≡ room o₀ → (h : Head) → HeadUpTo end s (after y.edge.way) h → Lays all o₀ o (record { wrote = n; more = is_some h })
  in_room l (Some x) u = room_told l (pair_of x.0) (up_to end (after u.0.way)) u.1
  in_room l None u = all_told (omega arith) u

  pub full : n ≡ room o₀ → (h : Head) (more : Bool) → HeadUpTo end s (after y.edge.way) h → more ≡ is_some h → Lays all o₀ o (record { wrote = room o₀; more = more })
  full l h more u q = subst (Lays all o₀ o) (ap₂ (λ (n : ℕ) (b : Bool). record { wrote = n; more = b }) l (sym q)) (in_room l h u)

  -- the pair in sight is written
  pub one_more : (x : Kv × Handle) → HeadUpTo end s (after y.edge.way) (Some x) → n < room o₀ → Sofar s all end o₀ (set (set o (2 * n) x.0.0) (2 * n + 1) x.0.1) (n + 1) x.1
  one_more x u l = record {
    edge = u.0;
    done = y.done ++ pair_of x.0 ∷ [];
    split = y.split ∙ (ap (λ (m : List Pair). y.done ++ m) u.1 ∙ simp append_assoc);
    count = length-append y.done (pair_of x.0 ∷ []) ∙ omega (arith, y.count);
    words = rw y.words (laid_more y.done (pair_of x.0) o₀ n y.count (omega (arith, l, div-add-mod' (length o₀) 2)));
  }

-- ---- where it begins: at the edge of the start

module _ (q : Range) {s : State} (o : Sound s) where
  abbrev pub start_at : (d : Handle) → d ≡ leaf_edge (start_edge q s.whole) → EdgeAt s d
  start_at d e = record { way = start_edge q s.whole; whole = (start_parts q s.whole o.rising).whole; is = e }

  -- what lies after it, up to the end, is the range
  pub listed : (o₀ o₁ : List ℕ) (r : Page) → Lays (up_to q.end (after (start_edge q s.whole))) o₀ o₁ r
      → (o₁ ≡ laid (listing q (room o₀) s) o₀) × (said_listed (Ok r) ≡ record { answer = Done; wrote = length (listing q (room o₀) s); more = more_remain q (room o₀) s })
  listed o₀ o₁ r l =
      let e = sym (range_is q s.whole o.rising) in
      (l.written ∙ ap (λ (ps : List Pair). laid (take (room o₀) ps) o₀) e, ap (λ (p : Page). said_listed (Ok p)) l.said ∙ ap {B = Listed} (λ (ps : List Pair). record { answer = Done; wrote = length (take (room o₀) ps); more = ltb (room o₀) (length ps) }) e)
