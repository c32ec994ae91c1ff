-- Where the steps of a walk lead among the posts: each move of the cursor is where its step in the tree ends.
-- Assumes nothing.
use Prim.Native.Nat.{ℕ, suc, ◌+◌}
use native.Mathlib.Omega.{arith}
use mathlib.Core.Path.{◌≡◌, refl, sym, ap, ◌∙◌, subst}
use mathlib.Core.Bool.{true, false}
use mathlib.Core.List.{List, [], ◌∷◌, ◌++◌, map, append_assoc, append-nil, reverse}
use lib.ListN.{length, length-append, length-map}
use borrow.Author.Tests.{eq-eqb}
use Rattle.model.specs.declared.SearchBound.{SearchBound}
use Rattle.model.specs.declared.SearchBound.TheVariants.{AllIncluded}
use Rattle.model.specs.Lists.{All}
use Rattle.model.specs.Tree.{Pair, Item, Tree, Ctx, top, Whole, plug, fill, flat, lefts, before}
use Rattle.model.specs.Search.{Spot, at, gap, sink, last_edge}
use Rattle.model.specs.Range.{starts}
use Rattle.model.specs.Walk.{next_kv, back_kv, next_edge, back_edge}
use Rattle.model.specs.State.{State}
use Rattle.model.specs.Promise.{Holds}
use Rattle.model.specs.Cursor as on
use Rattle.model.specs.Cursor.{Stand, before as Before, past, Moved, Post, posts, moved, from}
use Rattle.model.proofs.Places.{append_parts}
use Rattle.model.proofs.Descent.{last_before}
use Rattle.model.proofs.Walks.{Ahead, Behind, next_kv_lem, back_kv_lem, next_edge_lem, back_edge_lem, start_parts}
use Rattle.walking.specs.Arrived.{arrived}
use Rattle.walking.proofs.Posts.{pair_of, post, posts_of, posts_before, posts_after, plug_posts, lows, highs, posts_around, before_pairs, after_pairs, lows_pairs, highs_pairs, reverse_split, onward_rising, onward_falling}

-- the spot is the first of these; or there are none
abbrev pub Heads : Spot → List Post → Type 0
Heads (gap c) ps = ps ≡ []
Heads (at c n l e x r) ps = (qs : List Post) × (ps ≡ post n (length l) x.pair ∷ qs)

pub heads_moved : (n : ℕ) (end : Stand) (p : Spot) (ps : List Post) → Heads p ps → moved n end ps ≡ arrived n end p
heads_moved n end (gap c) ps y = ap (moved n end) y
heads_moved n end (at c m l e x r) ps y = ap (moved n end) y.1

none_mapped : {A B : Type 0} (f : A → B) (l : List A) → map f l ≡ [] → l ≡ []
none_mapped f [] e = refl
none_mapped f (x ∷ l) e = absurd (omega (arith, ap length e))

-- the posts after a leaf edge begin where the pairs after it begin, those before it end where the pairs before it end
module _ (w : Whole) (a b : List Post) (q : posts_of w ≡ a ++ b) where
  about : {h : ℕ} (c : Ctx (suc h)) (n : ℕ) (l : List (Item (Tree h))) (e : Tree h) (x : Item (Tree h)) (r : List (Item (Tree h))) → plug c (fill n l e (x ∷ r)) ≡ w → a ++ b ≡ lows c n l e x r ++ post n (length l) x.pair ∷ highs c n l e x r
  about c n l e x r v = sym q ∙ (ap posts_of (sym v) ∙ posts_around c n l e x r)

  pub ahead_heads : (p : Spot) → Ahead w (map pair_of b) p → Heads p b
  ahead_heads (gap c) y = none_mapped pair_of b y
  ahead_heads (at c n l e x r) y =
      let v = about c n l e x r y.0 in
      let A = lows c n l e x r in
      let B = highs c n l e x r in
      let m : length b ≡ suc (length B) = sym (length-map b pair_of) ∙ (ap length (y.1 ∙ ap (λ k. x.pair ∷ k) (sym (highs_pairs c n l e x r))) ∙ ap suc (length-map B pair_of)) in
      (B, (append_parts a b A (post n (length l) x.pair ∷ B) (length A) (omega (arith, ap length v, length-append a b, length-append A (post n (length l) x.pair ∷ B), m)) refl v).1)

  pub behind_heads : (p : Spot) → Behind w (map pair_of a) p → Heads p (reverse a)
  behind_heads (gap c) y = ap reverse (none_mapped pair_of a y)
  behind_heads (at c n l e x r) y =
      let A = lows c n l e x r in
      let B = highs c n l e x r in
      let P = post n (length l) x.pair in
      let v : a ++ b ≡ (A ++ P ∷ []) ++ B = about c n l e x r y.0 ∙ sym (append_assoc A (P ∷ []) B) in
      let m : length a ≡ length A + 1 = sym (length-map a pair_of) ∙ (ap length (y.1 ∙ ap (λ k. k ++ x.pair ∷ []) (sym (lows_pairs c n l e x r))) ∙ (length-append (map pair_of A) (x.pair ∷ []) ∙ omega (arith, length-map A pair_of))) in
      (reverse A, ap reverse (append_parts a b (A ++ P ∷ []) B (length a) refl (omega (arith, length-append A (P ∷ []), m)) v).0 ∙ reverse_split A P [])

-- ---- the moves

from_parts : (b : SearchBound) (l r : List Post) → All (λ (p : Pair). starts b p ≡ false) (map pair_of l) → All (λ (p : Pair). starts b p ≡ true) (map pair_of r) → from b (l ++ r) ≡ r
from_parts b [] [] x y = refl
from_parts b [] (p ∷ r) x y = rw y.0
from_parts b (p ∷ l) r x y = rw x.0 (from_parts b l r x.1 y)

-- the posts about a leaf edge
edge_posts : (w : Whole) (c : Ctx 0) → plug c tt ≡ w → posts_of w ≡ posts_before c ++ posts_after c
edge_posts w c e = ap posts_of (sym e) ∙ plug_posts c tt

module _ {w : List ℕ} {s : State} (o : Holds w s) where
  -- the leaf edge of a start bound
  abbrev pub start_of : SearchBound → Ctx 0
  start_of b = sink (starts b) s.whole.height top s.whole.root

  pub seek_arrives : (n : ℕ) (b : SearchBound) → on.seek n b s ≡ arrived n past (next_kv (start_of b))
  seek_arrives n b =
      let p = start_parts (record { start = b; end = AllIncluded }) s.whole o.sound.rising in
      let c = start_of b in
      let e = edge_posts s.whole c p.whole in
      let f : from b (posts s) ≡ posts_after c = ap (from b) e ∙ from_parts b (posts_before c) (posts_after c) (subst (All (λ (q : Pair). starts b q ≡ false)) (sym (before_pairs c)) p.leaves) (subst (All (λ (q : Pair). starts b q ≡ true)) (sym (after_pairs c)) p.takes) in
      let k : Ahead s.whole (map pair_of (posts_after c)) (next_kv c) = subst (λ v. Ahead v (map pair_of (posts_after c)) (next_kv c)) p.whole (subst (λ ps. Ahead (plug c tt) ps (next_kv c)) (sym (after_pairs c)) (next_kv_lem c)) in
      ap (moved n past) f ∙ heads_moved n past (next_kv c) (posts_after c) (ahead_heads s.whole (posts_before c) (posts_after c) e (next_kv c) k)

  abbrev pub end_of : Ctx 0
  end_of = last_edge s.whole.height top s.whole.root

  pub last_arrives : (n : ℕ) → on.last n s ≡ arrived n Before (back_kv end_of)
  last_arrives n =
      let c = end_of in
      let d = last_before s.whole.height top s.whole.root in
      let e = edge_posts s.whole c d.2 in
      let z : posts_after c ≡ [] = none_mapped pair_of (posts_after c) (after_pairs c ∙ d.1) in
      let k : Behind s.whole (map pair_of (posts_before c)) (back_kv c) = subst (λ v. Behind v (map pair_of (posts_before c)) (back_kv c)) d.2 (subst (λ ps. Behind (plug c tt) ps (back_kv c)) (sym (before_pairs c)) (back_kv_lem c)) in
      let f : posts s ≡ posts_before c = e ∙ (ap (λ l. posts_before c ++ l) z ∙ append-nil (posts_before c)) in
      ap (λ l. moved n Before (reverse l)) f ∙ heads_moved n Before (back_kv c) (reverse (posts_before c)) (behind_heads s.whole (posts_before c) (posts_after c) e (back_kv c) k)

  module _ {h : ℕ} (c : Ctx (suc h)) (m : ℕ) (l : List (Item (Tree h))) (e : Tree h) (x : Item (Tree h)) (r : List (Item (Tree h))) (q : plug c (fill m l e (x ∷ r)) ≡ s.whole) where
    split : posts s ≡ lows c m l e x r ++ post m (length l) x.pair ∷ highs c m l e x r
    split = ap posts_of (sym q) ∙ posts_around c m l e x r

    abbrev standing : ℕ → on.Cursor
    standing n = record { changes = n; stand = on.on (record { node = m; place = length l }) }

    pub next_arrives : (n : ℕ) → on.next n (standing n) s ≡ arrived n past (next_kv (next_edge c m l e x r))
    next_arrives n =
        let d = next_edge_lem c m l e x r in
        let E = next_edge c m l e x r in
        let A = lows c m l e x r ++ post m (length l) x.pair ∷ [] in
        let B = highs c m l e x r in
        let v : posts_of s.whole ≡ A ++ B = split ∙ sym (append_assoc (lows c m l e x r) (post m (length l) x.pair ∷ []) B) in
        let k : Ahead s.whole (map pair_of B) (next_kv E) = subst (λ u. Ahead u (map pair_of B) (next_kv E)) (d.1 ∙ q) (subst (λ ps. Ahead (plug E tt) ps (next_kv E)) (d.0 ∙ sym (highs_pairs c m l e x r)) (next_kv_lem E)) in
        ap (on.step n past (standing n)) (onward_rising o (lows c m l e x r) (post m (length l) x.pair) B split)
        ∙ (rw (eq-eqb n n refl) (heads_moved n past (next_kv E) B (ahead_heads s.whole A B v (next_kv E) k)))

    pub previous_arrives : (n : ℕ) → on.previous n (standing n) s ≡ arrived n Before (back_kv (back_edge c m l e x r))
    previous_arrives n =
        let d = back_edge_lem c m l e x r in
        let E = back_edge c m l e x r in
        let A = lows c m l e x r in
        let B = post m (length l) x.pair ∷ highs c m l e x r in
        let k : Behind s.whole (map pair_of A) (back_kv E) = subst (λ u. Behind u (map pair_of A) (back_kv E)) (d.1 ∙ q) (subst (λ ps. Behind (plug E tt) ps (back_kv E)) (d.0 ∙ (append_assoc (before c) (lefts (flat h) l) (flat h e) ∙ sym (lows_pairs c m l e x r))) (back_kv_lem E)) in
        ap (on.step n Before (standing n)) (onward_falling o A (post m (length l) x.pair) (highs c m l e x r) split)
        ∙ (rw (eq-eqb n n refl) (heads_moved n Before (back_kv E) (reverse A) (behind_heads s.whole A B split (back_kv E) k)))
