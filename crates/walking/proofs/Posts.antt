-- The pairs with their places: about a hole, in the words, and no place twice.
-- Assumes nothing.
use Prim.Native.Nat.{ℕ, zero, suc, ◌+◌, ◌<◌}
use native.Mathlib.Omega.{arith}
use mathlib.Core.Path.{◌≡◌, refl, sym, ap, ap₂, ◌∙◌, subst}
use mathlib.Core.Bool.{Bool, true, false, ◌&&◌}
use mathlib.Core.List.{List, [], ◌∷◌, ◌++◌, map, map-append, append_assoc, append-nil, reverse, reverse_aux, reverse-append, reverse-cons}
use mathlib.Core.Option.{some}
use lib.Dec.{eqb, lit<}
use lib.ListN.{length, get_or}
use borrow.Author.Tests.{eqb-true, eq-eqb}
use Rattle.model.specs.Lists.{All}
use Rattle.model.specs.Layout.{count_word, free, most, key_of, val_of}
use Rattle.model.specs.Tree.{Pair, Item, Tree, Ctx, top, under, Whole, plug, fill, fill_first, fill_rest, flat, flats, lefts, before, after}
use Rattle.model.specs.Map.{Rising, Below, Above}
use Rattle.model.specs.State.{State, list}
use Rattle.model.specs.Words.{kind, pairs}
use Rattle.model.specs.Promise.{Holds}
use Rattle.model.specs.Cursor.{Stop, Post, posts_from, posts_in, posts, PairAt, pair_at, same_stop, onward}
use Rattle.model.proofs.Lists.{all_append, all_left, all_right}
use Rattle.model.proofs.Rising.{rising_below, rising_above}
use Rattle.model.proofs.Plug.{length_fill}
use Rattle.model.proofs.Held.{words_long}
use Rattle.model.proofs.Header.{header_is}
use Rattle.model.proofs.Standing.{node_at, length_at, short_at, key_at, value_at, fill_at}

-- the pair of a post
abbrev pub pair_of : Post → Pair
pair_of p = p.pair

abbrev pub post : ℕ → ℕ → Pair → Post
post n i p = record { stop = record { node = n; place = i }; pair = p }

-- ---- they are the pairs in order

module _ {A : Type 0} (f : A → List Post) (g : A → List Pair) (e : (t : A) → map pair_of (f t) ≡ g t) (n : ℕ) where
  from_pairs : (i : ℕ) (r : List (Item A)) → map pair_of (posts_from f n i r) ≡ flats g r
  from_pairs i [] = refl
  from_pairs i (x ∷ r) = ap (λ l. x.pair ∷ l) (map-append pair_of (f x.edge) (posts_from f n (suc i) r) ∙ ap₂ ◌++◌ (e x.edge) (from_pairs (suc i) r))

pub in_pairs : (h : ℕ) (t : Tree h) → map pair_of (posts_in h t) ≡ flat h t
in_pairs zero t = refl
in_pairs (suc h) t = map-append pair_of (posts_in h t.first) (posts_from (posts_in h) t.no 0 t.rest) ∙ ap₂ ◌++◌ (in_pairs h t.first) (from_pairs (posts_in h) (flat h) (in_pairs h) t.no 0 t.rest)

pub posts_pairs : (s : State) → map pair_of (posts s) ≡ list s
posts_pairs s = in_pairs s.whole.height s.whole.root

-- ---- about a hole

-- left of it in its node, the nearest last
abbrev pub posts_left : {A : Type 0} → (A → List Post) → ℕ → List (Item A) → List Post
posts_left f n [] = []
posts_left f n (y ∷ l) = posts_left f n l ++ (f y.edge ++ post n (length l) y.pair ∷ [])

abbrev pub posts_before : {h : ℕ} → Ctx h → List Post
posts_before top = []
posts_before (under {h = h} f c) = posts_before c ++ posts_left (posts_in h) f.no f.left

abbrev pub posts_after : {h : ℕ} → Ctx h → List Post
posts_after top = []
posts_after (under {h = h} f c) = posts_from (posts_in h) f.no (length f.left) f.right ++ posts_after c

abbrev pub posts_of : Whole → List Post
posts_of w = posts_in w.height w.root

fill_posts : {A : Type 0} (f : A → List Post) (n : ℕ) (l : List (Item A)) (x : A) (r : List (Item A)) → f (fill_first l x) ++ posts_from f n 0 (fill_rest l x r) ≡ posts_left f n l ++ (f x ++ posts_from f n (length l) r)
fill_posts f n [] x r = refl
fill_posts f n (y ∷ l) x r = fill_posts f n l y.edge (record { pair = y.pair; edge = x } ∷ r) ∙ simp append_assoc

pub plug_posts : {h : ℕ} (c : Ctx h) (t : Tree h) → posts_of (plug c t) ≡ posts_before c ++ (posts_in h t ++ posts_after c)
plug_posts top t = simp append-nil
plug_posts (under {h = h} f c) t = plug_posts c (fill f.no f.left t f.right) ∙ rw (fill_posts (posts_in h) f.no f.left t f.right) (simp append_assoc)

-- a pair of a node, and all about it
module _ {h : ℕ} (c : Ctx (suc h)) (n : ℕ) (l : List (Item (Tree h))) (e : Tree h) (x : Item (Tree h)) (r : List (Item (Tree h))) where
  abbrev pub lows : List Post
  lows = posts_before c ++ (posts_left (posts_in h) n l ++ posts_in h e)

  abbrev pub highs : List Post
  highs = posts_in h x.edge ++ (posts_from (posts_in h) n (suc (length l)) r ++ posts_after c)

  pub posts_around : posts_of (plug c (fill n l e (x ∷ r))) ≡ lows ++ post n (length l) x.pair ∷ highs
  posts_around = plug_posts c (fill n l e (x ∷ r)) ∙ rw (fill_posts (posts_in h) n l e (x ∷ r)) (simp append_assoc)

left_pairs : (h n : ℕ) (l : List (Item (Tree h))) → map pair_of (posts_left (posts_in h) n l) ≡ lefts (flat h) l
left_pairs h n [] = refl
left_pairs h n (y ∷ l) =
    map-append pair_of (posts_left (posts_in h) n l) (posts_in h y.edge ++ post n (length l) y.pair ∷ [])
    ∙ ap₂ ◌++◌ (left_pairs h n l) (map-append pair_of (posts_in h y.edge) (post n (length l) y.pair ∷ []) ∙ ap (λ k. k ++ y.pair ∷ []) (in_pairs h y.edge))

pub before_pairs : {h : ℕ} (c : Ctx h) → map pair_of (posts_before c) ≡ before c
before_pairs top = refl
before_pairs (under {h = h} f c) = map-append pair_of (posts_before c) (posts_left (posts_in h) f.no f.left) ∙ ap₂ ◌++◌ (before_pairs c) (left_pairs h f.no f.left)

pub after_pairs : {h : ℕ} (c : Ctx h) → map pair_of (posts_after c) ≡ after c
after_pairs top = refl
after_pairs (under {h = h} f c) = map-append pair_of (posts_from (posts_in h) f.no (length f.left) f.right) (posts_after c) ∙ ap₂ ◌++◌ (from_pairs (posts_in h) (flat h) (in_pairs h) f.no (length f.left) f.right) (after_pairs c)

module _ {h : ℕ} (c : Ctx (suc h)) (n : ℕ) (l : List (Item (Tree h))) (e : Tree h) (x : Item (Tree h)) (r : List (Item (Tree h))) where
  pub lows_pairs : map pair_of (lows c n l e x r) ≡ before c ++ (lefts (flat h) l ++ flat h e)
  lows_pairs = map-append pair_of (posts_before c) (posts_left (posts_in h) n l ++ posts_in h e) ∙ ap₂ ◌++◌ (before_pairs c) (map-append pair_of (posts_left (posts_in h) n l) (posts_in h e) ∙ ap₂ ◌++◌ (left_pairs h n l) (in_pairs h e))

  pub highs_pairs : map pair_of (highs c n l e x r) ≡ flat h x.edge ++ (flats (flat h) r ++ after c)
  highs_pairs =
      map-append pair_of (posts_in h x.edge) (posts_from (posts_in h) n (suc (length l)) r ++ posts_after c)
      ∙ ap₂ ◌++◌ (in_pairs h x.edge) (map-append pair_of (posts_from (posts_in h) n (suc (length l)) r) (posts_after c) ∙ ap₂ ◌++◌ (from_pairs (posts_in h) (flat h) (in_pairs h) n (suc (length l)) r) (after_pairs c))

-- ---- what every pair of a tree has, every post has

module _ (w : Whole) (Q : Post → Type 0) (at : (h : ℕ) (c : Ctx (suc h)) (n : ℕ) (l : List (Item (Tree h))) (e : Tree h) (x : Item (Tree h)) (r : List (Item (Tree h))) → plug c (fill n l e (x ∷ r)) ≡ w → Q (post n (length l) x.pair)) where
  pub all_posts : (h : ℕ) (c : Ctx h) (t : Tree h) → plug c t ≡ w → All Q (posts_in h t)
  all_posts zero c t q = tt
  all_posts (suc h) c t q = go (all_posts h) [] t.first t.rest q
    where
      go : ((c : Ctx h) (t : Tree h) → plug c t ≡ w → All Q (posts_in h t)) → (l : List (Item (Tree h))) (e : Tree h) (r : List (Item (Tree h))) → plug c (fill t.no l e r) ≡ w → All Q (posts_in h e ++ posts_from (posts_in h) t.no (length l) r)
      go ih l e [] q = all_append Q (posts_in h e) [] (ih (under (record { no = t.no; left = l; right = [] }) c) e q) tt
      go ih l e (x ∷ r) q = all_append Q (posts_in h e) _ (ih (under (record { no = t.no; left = l; right = x ∷ r }) c) e q) (at h c t.no l e x r q, go ih (record { pair = x.pair; edge = e } ∷ l) x.edge r q)

-- ---- in the words

-- a post stands in the words
abbrev pub Stands : List ℕ → Post → Type 0
Stands w p = PairAt w p.stop × (pair_at w p.stop ≡ p.pair)

module _ {w : List ℕ} {s : State} (o : Holds w s) where
  pub stands_at : {h : ℕ} (c : Ctx (suc h)) (n : ℕ) (l : List (Item (Tree h))) (e : Tree h) (x : Item (Tree h)) (r : List (Item (Tree h))) → plug c (fill n l e (x ∷ r)) ≡ s.whole → Stands w (post n (length l) x.pair)
  stands_at {h} c n l e x r q =
      let a = node_at o c (fill n l e (x ∷ r)) q in
      let m : length (fill n l e (x ∷ r)).rest ≡ length l + length (x ∷ r) = length_fill n l e (x ∷ r) in
      let here : (f : Pair → ℕ) → get_or (map f (pairs (fill n l e (x ∷ r)).rest)) (length l) 0 ≡ f x.pair = λ f. ap (λ (i : ℕ). get_or (map f (pairs (fill n l e (x ∷ r)).rest)) i 0) (let z : length l ≡ length l + 0 = omega arith in z) ∙ fill_at f l e (x ∷ r) 0 in
      let u : length l < most = omega (arith, short_at a, m) in (
        record {
          inside = omega (arith, a.within, ap length o.words ∙ words_long o.sound, header_is o count_word (lit< tt));
          used = λ z. live h (sym a.reads.state_is ∙ z);
          short = omega (arith, length_at a, m);
        },
        ap₂ (λ (k v : ℕ). record { key = k; val = v }) (key_at a (length l) u ∙ here key_of) (value_at a (length l) u ∙ here val_of),
      )
    where
      live : (h : ℕ) → kind h ≡ free → ⊥
      live zero z = omega arith
      live (suc h) z = omega arith

  pub all_stand : All (Stands w) (posts s)
  all_stand = all_posts s.whole (Stands w) (λ h. stands_at) s.whole.height top s.whole.root refl

-- ---- no place twice

pub same_self : (p : Stop) → same_stop p p ≡ true
same_self p = rw (eq-eqb p.node p.node refl, eq-eqb p.place p.place refl)

and_both : (a b : Bool) → a && b ≡ true → (a ≡ true) × (b ≡ true)
and_both true b e = (refl, e)
and_both false b e = let z : ◌≡◌ {A = ℕ} 0 1 = cc in absurd (omega arith)

pub same_stop_lem : (p q : Stop) → same_stop p q ≡ true → p ≡ q
same_stop_lem p q e = let d = and_both (eqb p.node q.node) (eqb p.place q.place) e in λ i. record { node = eqb-true p.node q.node d.0 i; place = eqb-true p.place q.place d.1 i }

-- another place
abbrev Other : Stop → Post → Type 0
Other p q = same_stop p q.stop ≡ false

pub skip : (p : Stop) (a b : List Post) → All (Other p) a → onward p (a ++ b) ≡ onward p b
skip p [] b o = refl
skip p (q ∷ a) b o = rw o.0 (skip p a b o.1)

-- of two pairs with other keys the places are other ones
other : {w : List ℕ} (p q : Post) → Stands w p → Stands w q → (p.pair.key ≡ q.pair.key → ⊥) → Other p.stop q
other {w} p q x y d = go (same_stop p.stop q.stop) refl
  where
    go : (b : Bool) → same_stop p.stop q.stop ≡ b → b ≡ false
    go false e = refl
    go true e = absurd (d (ap (λ (z : Pair). z.key) (sym x.1 ∙ ap (pair_at w) (same_stop_lem p.stop q.stop e) ∙ y.1)))

module _ {w : List ℕ} (p : Post) (hp : Stands w p) where
  others_low : (a : List Post) → All (Stands w) a → Below p.pair.key (map pair_of a) → All (Other p.stop) a
  others_low [] x y = tt
  others_low (q ∷ a) x y = (other p q hp x.0 (λ e. omega (arith, y.0)), others_low a x.1 y.1)

  others_high : (a : List Post) → All (Stands w) a → Above p.pair.key (map pair_of a) → All (Other p.stop) a
  others_high [] x y = tt
  others_high (q ∷ a) x y = (other p q hp x.0 (λ e. omega (arith, y.0)), others_high a x.1 y.1)

pub all_reverse : {A : Type 0} (P : A → Type 0) (a : List A) → All P a → All P (reverse a)
all_reverse P a h = go a [] h tt
  where
    go : (a b : List _) → All P a → All P b → All P (reverse_aux a b)
    go [] b x y = y
    go (q ∷ a) b x y = go a (q ∷ b) x.1 (x.0, y)

pub reverse_split : {A : Type 0} (a : List A) (p : A) (b : List A) → reverse (a ++ p ∷ b) ≡ reverse b ++ p ∷ reverse a
reverse_split a p b = reverse-append a (p ∷ b) ∙ (ap (λ l. l ++ reverse a) (reverse-cons p b) ∙ append_assoc (reverse b) (p ∷ []) (reverse a))

-- what comes after a post, rising and falling
module _ {w : List ℕ} {s : State} (o : Holds w s) (a : List Post) (p : Post) (b : List Post) (e : posts s ≡ a ++ p ∷ b) where
  stand : All (Stands w) (a ++ p ∷ b)
  stand = subst (All (Stands w)) e (all_stand o)

  rises : Rising (map pair_of a ++ p.pair ∷ map pair_of b)
  rises = subst Rising (sym (posts_pairs s) ∙ ap (map pair_of) e ∙ map-append pair_of a (p ∷ b)) o.sound.rising

  found : (l m : List Post) → All (Other p.stop) l → onward p.stop (l ++ p ∷ m) ≡ some m
  found l m x = skip p.stop l (p ∷ m) x ∙ rw (same_self p.stop)

  pub onward_rising : onward p.stop (posts s) ≡ some b
  onward_rising = ap (onward p.stop) e ∙ found a b (others_low p (all_right (Stands w) a (p ∷ b) stand).0 a (all_left (Stands w) a (p ∷ b) stand) (rising_below p.pair (map pair_of b) (map pair_of a) rises))

  pub onward_falling : onward p.stop (reverse (posts s)) ≡ some (reverse a)
  onward_falling =
      ap (λ l. onward p.stop (reverse l)) e
      ∙ (ap (onward p.stop) (reverse_split a p b)
      ∙ found (reverse b) (reverse a) (all_reverse (Other p.stop) b (others_high p (all_right (Stands w) a (p ∷ b) stand).0 b (all_right (Stands w) a (p ∷ b) stand).1 (rising_above p.pair (map pair_of b) (map pair_of a) rises))))
