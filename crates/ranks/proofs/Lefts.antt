-- The pairs left of an edge, counted edge by edge; and a rank that passes the edges and pairs of a node.
-- Assumes nothing.
use Rattle.std.proofs.Common.{ℕ, zero, suc, ◌+◌, ◌*◌, ◌-◌, ◌≤◌, ◌<◌, sub-one, add-one, arith, ◌≡◌, refl, sym, ap, ap₂, ◌∙◌, subst, List, [], ◌∷◌, ◌++◌, lit<, length, length-append}
use native.Mathlib.Decide.{dec_lt}
use mathlib.Core.Option.{some}
use Rattle.model.specs.declared.SearchBound.{SearchBound}
use Rattle.model.specs.Lists.{part}
use Rattle.model.specs.Layout.{most, largest_count, base, pairs_word, word_at, length_word, keys_word, edges_word, total_word}
use Rattle.model.specs.Tree.{Pair, Item, Tree, Ctx, plug, fill, flat, flats, flat_of, lefts, before, after}
use Rattle.model.specs.Search.{sink}
use Rattle.model.specs.Range.{open_at, lower_edge, keys_of}
use Rattle.model.specs.Map.{nth}
use Rattle.model.specs.State.{State, list}
use Rattle.model.specs.Promise.{Holds}
use Rattle.model.proofs.Plug.{flat_plug}
use Rattle.model.proofs.Bounds.{few}
use Rattle.model.proofs.Backward.{header_is, backward}
use Rattle.model.proofs.Forks.{starts, hole_at, open_length, open_fill, lower_step}
use Rattle.model.proofs.Standing.{At, stands, below_at, short_at}
use Rattle.node.specs.declared.Place.{Place}
use Rattle.search.specs.Results.{edged}
use Rattle.navigate.proofs.Lowers as lowers
use Rattle.ranks.specs.Picks.{EdgeIn, NodeIn, Here, Onward, Picking}

-- ---- the first edges of a node

module _ {A : Type 0} (f : A → ℕ) where
  abbrev pub sums : ℕ → A → List (Item A) → ℕ
  sums zero e r = 0
  sums (suc i) e [] = f e
  sums (suc i) e (x ∷ r) = f e + sums i x.edge r

  pub sums_more : (i : ℕ) (l : List (Item A)) (e : A) (r : List (Item A)) → i ≤ length r → sums (suc i) e r ≡ sums i e r + f (open_at i l e r).hole
  sums_more zero l e [] u = omega arith
  sums_more zero l e (x ∷ r) u = omega arith
  sums_more (suc i) l e [] u = absurd (omega arith)
  sums_more (suc i) l e (x ∷ r) u = omega (arith, sums_more i (record { pair = x.pair; edge = e } ∷ l) x.edge r (omega arith))

module _ {A : Type 0} (g : A → List Pair) where
  abbrev many : A → ℕ
  many a = length (g a)

  lefts_sums : (i : ℕ) (l : List (Item A)) (e : A) (r : List (Item A)) → i ≤ length r → length (lefts g (open_at i l e r).left) ≡ length (lefts g l) + (i + sums many i e r)
  lefts_sums zero l e [] u = omega arith
  lefts_sums zero l e (x ∷ r) u = omega arith
  lefts_sums (suc i) l e [] u = absurd (omega arith)
  lefts_sums (suc i) l e (x ∷ r) u =
      lefts_sums i (record { pair = x.pair; edge = e } ∷ l) x.edge r (omega arith)
      ∙ omega (arith, length-append (lefts g l) (g e ++ x.pair ∷ []), length-append (g e) (x.pair ∷ []))

  sums_few : (i : ℕ) (e : A) (r : List (Item A)) → sums many i e r ≤ length (g e ++ flats g r)
  sums_few zero e r = omega arith
  sums_few (suc i) e [] = omega (arith, length-append (g e) [])
  sums_few (suc i) e (x ∷ r) = omega (arith, sums_few i x.edge r, length-append (g e) (x.pair ∷ (g x.edge ++ flats g r)))

-- ---- at a node of a state's tree

abbrev pub left_sum : (h : ℕ) → Tree (suc h) → ℕ → ℕ
left_sum h t i = sums (λ (x : Tree h). length (flat h x)) i t.first t.rest

module _ {w : List ℕ} {s : State} (o : Holds w s) {n h : ℕ} (p : At s n h) where
  pub total_at : word_at w n total_word ≡ length (flat (suc h) p.tree)
  total_at = (stands o p).reads.total_is tt

  split : list s ≡ before p.ctx ++ (flat (suc h) p.tree ++ after p.ctx)
  split = ap flat_of (sym p.whole) ∙ flat_plug p.ctx p.tree

  -- no more pairs than fit in a word
  pub few_before : length (before p.ctx) + length (flat (suc h) p.tree) ≤ most * largest_count
  few_before =
      let f = backward w s o in
      omega (arith, ap length split, length-append (before p.ctx) (flat (suc h) p.tree ++ after p.ctx), length-append (flat (suc h) p.tree) (after p.ctx), header_is o pairs_word (lit< tt), few f, f.sized.few)

module _ {w : List ℕ} {s : State} (o : Holds w s) {n h : ℕ} (p : At s n (suc h)) where
  pub edge_in : (i : ℕ) → i ≤ length p.tree.rest → (base n + 39 ≤ length w) × (i ≤ most)
  edge_in i l = let a = stands o p in (a.within, omega (arith, short_at a))

  -- the node below an edge
  pub child_at : (i m : ℕ) → i ≤ length p.tree.rest → m ≡ word_at w n (edges_word + i) → (base m + 39 ≤ length w) × (word_at w m total_word ≡ length (flat (suc h) (hole_at p.tree i)))
  child_at i m l e = let q = below_at o p i m l e in ((stands o q).within, total_at o q)

  -- one more edge is passed
  pub sum_more : (i m : ℕ) → i < length p.tree.rest + 1 → m ≡ word_at w n (edges_word + i) → left_sum (suc h) p.tree (i + 1) ≡ left_sum (suc h) p.tree i + word_at w m total_word
  sum_more i m l e = rw (add-one i, (child_at i m (omega arith) e).1) (sums_more (λ (x : Tree (suc h)). length (flat (suc h) x)) i [] p.tree.first p.tree.rest (omega arith))

  pub sum_few : (i : ℕ) → left_sum (suc h) p.tree i ≤ most * largest_count
  sum_few i = omega (arith, few_before o p, sums_few (flat (suc h)) i p.tree.first p.tree.rest)

pub left_is : (h : ℕ) (t : Tree (suc h)) (i : ℕ) → i ≤ length t.rest → length (lefts (flat h) (open_at i [] t.first t.rest).left) ≡ i + left_sum h t i
left_is h t i l = lefts_sums (flat h) i [] t.first t.rest l ∙ omega arith

gaps_none : (i : ℕ) (e : Tree 0) (r : List (Item (Tree 0))) → sums (λ (x : Tree 0). length (flat 0 x)) i e r ≡ 0
gaps_none zero e r = refl
gaps_none (suc i) e [] = refl
gaps_none (suc i) e (x ∷ r) = omega (arith, gaps_none i x.edge r)

-- ---- the descent of a start bound, with the pairs before it

pub record Sinking (z : Ctx zero) (s : State) (b : SearchBound) (n h sum : ℕ) : Type 0 where
  pub place : At s n h
  pub same : z ≡ sink (starts b) (suc h) place.ctx place.tree
  pub sum_is : sum ≡ length (before place.ctx)

module _ (z : Ctx zero) {w : List ℕ} {s : State} (o : Holds w s) (b : SearchBound) (n sum : ℕ) (ks : List ℕ) (q : ks ≡ part w (base n + keys_word) (word_at w n length_word)) (l : Place × SearchBound) (el : l ≡ edged (lower_edge b ks)) where
  low_is : {h : ℕ} (p : At s n h) → l ≡ edged (lower_edge b (keys_of p.tree.rest))
  low_is p = lowers.low_is z o b n ks q l el p

  low_in : {h : ℕ} (p : At s n h) → (lower_edge b (keys_of p.tree.rest)).at ≤ length p.tree.rest
  low_in p = lowers.low_inside z o b n ks q l el p

  pub low_inside : {h : ℕ} (p : At s n h) → l.0.0 ≤ length p.tree.rest
  low_inside p = rw (low_is p) (low_in p)

  pub sunk : (h : ℕ) → Sinking z s b n h sum → h ≡ 0 → sum + l.0.0 ≡ length (before z)
  sunk zero y e =
      let p = y.place in
      let i = (lower_edge b (keys_of p.tree.rest)).at in
      rw (low_is p) (sym (ap (λ (c : Ctx zero). length (before c)) (y.same ∙ lower_step b p.ctx p.tree (lowers.rises z o b n ks q l el p)) ∙ (length-append (before p.ctx) (lefts (flat 0) (open_at i [] p.tree.first p.tree.rest).left) ∙ omega (arith, y.sum_is, left_is 0 p.tree i (low_in p), gaps_none i p.tree.first p.tree.rest))))
  sunk (suc h) y e = absurd (omega arith)

  pub sinking_on : (h : ℕ) → Sinking z s b n h sum → (h ≡ 0 → ⊥) → (x : ℕ) → ((k : ℕ) (p : At s n (suc k)) → l.0.0 ≤ length p.tree.rest → x ≡ length (lefts (flat (suc k)) (open_at l.0.0 [] p.tree.first p.tree.rest).left))
      → (m : ℕ) → m ≡ word_at w n (edges_word + l.0.0) → Sinking z s l.1 m (h - 1) (sum + x)
  sinking_on zero y e x ex m em = absurd (e refl)
  sinking_on (suc h) y e x ex m em =
      let p = y.place in
      let a = low_is p in
      let i = (lower_edge b (keys_of p.tree.rest)).at in
      let k : x ≡ length (lefts (flat (suc h)) (open_at i [] p.tree.first p.tree.rest).left) = rw a at (ex h p (low_inside p)) in
      rw (sub-one (suc h), a) (record {
        place = below_at o p i m (low_in p) (rw a at em);
        same = y.same ∙ lower_step b p.ctx p.tree (lowers.rises z o b n ks q l el p);
        sum_is = sym (length-append (before p.ctx) (lefts (flat (suc h)) (open_at i [] p.tree.first p.tree.rest).left) ∙ omega (arith, y.sum_is, k));
      })

  pub edge_ready : (h : ℕ) → Sinking z s b n h sum → (h ≡ 0 → ⊥) → EdgeIn s n l.0.0
  edge_ready zero y e = absurd (e refl)
  edge_ready (suc h) y e = record { height = h; place = y.place; inside = low_inside y.place }

  pub low_few : (h : ℕ) → Sinking z s b n h sum → (sum + l.0.0 ≤ most * largest_count + most) × (l.0.0 ≤ most)
  low_few h y =
      let p = y.place in
      (omega (arith, y.sum_is, few_before o p, low_inside p, short_at (stands o p)), omega (arith, low_inside p, short_at (stands o p)))

  pub sink_few : (h : ℕ) → Sinking z s b n h sum → (h ≡ 0 → ⊥) → (x : ℕ) → ((k : ℕ) (p : At s n (suc k)) → l.0.0 ≤ length p.tree.rest → x ≡ length (lefts (flat (suc k)) (open_at l.0.0 [] p.tree.first p.tree.rest).left))
      → sum + x ≤ most * largest_count + (most * largest_count + most)
  sink_few zero y e x ex = absurd (e refl)
  sink_few (suc h) y e x ex =
      let p = y.place in
      omega (arith, y.sum_is, few_before o p, ex h p (low_inside p), left_is (suc h) p.tree l.0.0 (low_inside p), sum_few o p l.0.0, low_inside p, short_at (stands o p))

-- ---- a rank in a list of two parts

pub nth_left : (k : ℕ) (a b : List Pair) → k < length a → nth k (a ++ b) ≡ nth k a
nth_left k [] b l = absurd (omega arith)
nth_left zero (p ∷ a) b l = refl
nth_left (suc k) (p ∷ a) b l = nth_left k a b (omega arith)

pub nth_right : (k j : ℕ) (a b : List Pair) → k ≡ length a + j → nth k (a ++ b) ≡ nth j b
nth_right k j [] b e = ap (λ (i : ℕ). nth i b) (let z : k ≡ j = omega arith in z)
nth_right zero j (p ∷ a) b e = absurd (omega arith)
nth_right (suc k) j (p ∷ a) b e = nth_right k j a b (omega arith)

-- ---- the pair right of an edge

module _ {A : Type 0} where
  zero_hole : (l : List (Item A)) (e : A) (r : List (Item A)) → ((open_at zero l e r).hole ≡ e) × ((open_at zero l e r).right ≡ r)
  zero_hole l e [] = (refl, refl)
  zero_hole l e (x ∷ r) = (refl, refl)

  record Opens (i : ℕ) (l : List (Item A)) (e : A) (r : List (Item A)) : Type 0 where
    item : Item A
    later : List (Item A)
    is : (open_at i l e r).right ≡ item ∷ later
    hole : (open_at (suc i) l e r).hole ≡ item.edge
    right : (open_at (suc i) l e r).right ≡ later

  opens : (i : ℕ) (l : List (Item A)) (e : A) (r : List (Item A)) → i < length r → Opens i l e r
  opens i l e [] u = absurd (omega arith)
  opens zero l e (x ∷ r) u = let z = zero_hole (record { pair = x.pair; edge = e } ∷ l) x.edge r in record { item = x; later = r; is = refl; hole = z.0; right = z.1 }
  opens (suc i) l e (x ∷ r) u = let q = opens i (record { pair = x.pair; edge = e } ∷ l) x.edge r (omega arith) in record { item = q.item; later = q.later; is = q.is; hole = q.hole; right = q.right }

  no_right : (i : ℕ) (l : List (Item A)) (e : A) (r : List (Item A)) → length r ≤ i → (open_at i l e r).right ≡ []
  no_right i l e [] u = refl
  no_right zero l e (x ∷ r) u = absurd (omega arith)
  no_right (suc i) l e (x ∷ r) u = no_right i (record { pair = x.pair; edge = e } ∷ l) x.edge r (omega arith)

-- ---- a rank k in a node, which comes to j at the edge i

pub record Coming (h : ℕ) (t : Tree (suc h)) (k i j : ℕ) : Type 0 where
  pub inside : i ≤ length t.rest
  pub same : nth k (flat (suc h) t) ≡ nth j (flat h (hole_at t i) ++ flats (flat h) (open_at i [] t.first t.rest).right)
  pub more : j < length (flat h (hole_at t i) ++ flats (flat h) (open_at i [] t.first t.rest).right)

pub coming_in : (h : ℕ) (t : Tree (suc h)) (k : ℕ) → k < length (flat (suc h) t) → Coming h t k 0 k
coming_in h t k l =
    let z = zero_hole [] t.first t.rest in
    record { inside = omega arith; same = sym (ap₂ (λ (e : Tree h) (r : List (Item (Tree h))). nth k (flat h e ++ flats (flat h) r)) z.0 z.1); more = subst (λ (n : ℕ). k < n) (sym (ap₂ (λ (e : Tree h) (r : List (Item (Tree h))). length (flat h e ++ flats (flat h) r)) z.0 z.1)) l }

module _ (h : ℕ) (t : Tree (suc h)) (k i j : ℕ) (C : Coming h t k i j) where
  abbrev H : Tree h
  H = hole_at t i

  abbrev R : List (Item (Tree h))
  R = (open_at i [] t.first t.rest).right

  -- below the edge
  pub coming_down : j < length (flat h (hole_at t i)) → Onward h t k i j
  coming_down l = record { inside = C.inside; same = C.same ∙ nth_left j (flat h H) (flats (flat h) R) l; more = l }

  -- behind the last pair it is below the last edge
  pub coming_last : length t.rest ≤ i → Onward h t k i j
  coming_last l = coming_down (omega (arith, C.more, length-append (flat h H) (flats (flat h) R), ap (λ (r : List (Item (Tree h))). length (flats (flat h) r)) (no_right i [] t.first t.rest l)))

  module _ (l : length (flat h (hole_at t i)) ≤ j) where
    pub past_edge : i < length t.rest
    past_edge = go (dec_lt i (length t.rest))
      where
        go : Dec (i < length t.rest) → i < length t.rest
        go (yes u) = u
        go (no u) = absurd (omega (arith, C.more, length-append (flat h H) (flats (flat h) R), ap (λ (r : List (Item (Tree h))). length (flats (flat h) r)) (no_right i [] t.first t.rest (omega arith))))

    O : Opens i [] t.first t.rest
    O = opens i [] t.first t.rest past_edge

    abbrev D : ℕ
    D = j - length (flat h (hole_at t i))

    past : nth k (flat (suc h) t) ≡ nth (j - length (flat h (hole_at t i))) (O.item.pair ∷ (flat h O.item.edge ++ flats (flat h) O.later))
    past = C.same ∙ nth_right j D (flat h H) (flats (flat h) R) (omega arith) ∙ ap (λ (r : List (Item (Tree h))). nth D (flats (flat h) r)) O.is

    -- the pair right of it
    pub coming_here : j - length (flat h (hole_at t i)) ≡ 0 → Here h t k i
    coming_here z = record { item = O.item; later = O.later; inside = past_edge; is = O.is; picks = past ∙ ap (λ (d : ℕ). nth d (O.item.pair ∷ (flat h O.item.edge ++ flats (flat h) O.later))) z }

    -- past that too
    pub coming_on : (j - length (flat h (hole_at t i)) ≡ 0 → ⊥) → Coming h t k (i + 1) (j - length (flat h (hole_at t i)) - 1)
    coming_on z =
        let e : i + 1 ≡ suc i = omega arith in
        let d : D ≡ suc (D - 1) = omega arith in
        let long : length (flat h H ++ flats (flat h) R) ≡ length (flat h H) + suc (length (flat h O.item.edge ++ flats (flat h) O.later)) = length-append (flat h H) (flats (flat h) R) ∙ ap (λ (r : List (Item (Tree h))). length (flat h H) + length (flats (flat h) r)) O.is in
        rw e (record {
          inside = past_edge;
          same = past ∙ ap (λ (n : ℕ). nth n (O.item.pair ∷ (flat h O.item.edge ++ flats (flat h) O.later))) d ∙ sym (ap₂ (λ (x : Tree h) (r : List (Item (Tree h))). nth (D - 1) (flat h x ++ flats (flat h) r)) O.hole O.right);
          more = subst (λ (n : ℕ). D - 1 < n) (sym (ap₂ (λ (x : Tree h) (r : List (Item (Tree h))). length (flat h x ++ flats (flat h) r)) O.hole O.right)) (omega (arith, C.more, long));
        })

-- ---- in a leaf

leaf_item : (k : ℕ) (l : List (Item (Tree 0))) (e : Tree 0) (r : List (Item (Tree 0))) (u : k < length r) → nth k (flats (flat 0) r) ≡ some (opens k l e r u).item.pair
unfolding opens
leaf_item k l e [] u = absurd (omega arith)
leaf_item zero l e (x ∷ r) u = refl
leaf_item (suc k) l e (x ∷ r) u = leaf_item k (record { pair = x.pair; edge = e } ∷ l) x.edge r (omega arith)

leaf_long : (r : List (Item (Tree 0))) → length (flats (flat 0) r) ≡ length r
leaf_long [] = refl
leaf_long (x ∷ r) = ap suc (leaf_long r)

pub leaf_here : (t : Tree 1) (k : ℕ) → k < length (flat 1 t) → Here 0 t k k
leaf_here t k l =
    let u : k < length t.rest = omega (arith, leaf_long t.rest) in
    let O = opens k [] t.first t.rest u in
    record { item = O.item; later = O.later; inside = u; is = O.is; picks = leaf_item k [] t.first t.rest u }

-- ---- the descent

-- the pair of rank k of the whole is that of rank j below the node n
pub record Seeking (s : State) (k n h j : ℕ) : Type 0 where
  pub place : At s n h
  pub same : nth k (list s) ≡ nth j (flat (suc h) place.tree)
  pub more : j < length (flat (suc h) place.tree)

pub picked_at : {s : State} {k n h j i : ℕ} (S : Seeking s k n h j) → Here h S.place.tree j i → Picking s k (record { node = record { 0 = n }; height = h; at = record { 0 = i } })
picked_at {s} {k} {n} {h} {j} {i} S x =
    let p = S.place in
    let q = open_at i [] p.tree.first p.tree.rest in
    record {
      kv = record {
        ctx = p.ctx;
        no = p.tree.no;
        left = q.left;
        hole = q.hole;
        item = x.item;
        right = x.later;
        whole = ap (λ (r : List (Item (Tree h))). plug p.ctx (fill p.tree.no q.left q.hole r)) (sym x.is) ∙ ap (plug p.ctx) (open_fill p.tree.no i [] p.tree.first p.tree.rest) ∙ p.whole;
        node_is = sym p.number;
        at_is = sym (open_length i [] p.tree.first p.tree.rest (omega (arith, x.inside)) ∙ omega arith);
      };
      picks = S.same ∙ x.picks;
    }

pub picked_leaf : {s : State} {k n j : ℕ} (h : ℕ) → h ≡ 0 → Seeking s k n h j → Picking s k (record { node = record { 0 = n }; height = 0; at = record { 0 = j } })
picked_leaf zero e S = picked_at S (leaf_here S.place.tree _ S.more)
picked_leaf (suc h) e S = absurd (omega arith)

pub seeking_on : {w : List ℕ} {s : State} → Holds w s → {k n j : ℕ} (h : ℕ) → (h ≡ 0 → ⊥) → Seeking s k n h j → (i r : ℕ) → ((g : ℕ) (p : At s n (suc g)) → j < length (flat (suc (suc g)) p.tree) → Onward (suc g) p.tree j i r)
    → (m : ℕ) → m ≡ word_at w n (edges_word + i) → Seeking s k m (h - 1) r
seeking_on o zero z S i r x m e = absurd (z refl)
seeking_on o (suc h) z S i r x m e =
    let y = x h S.place S.more in
    rw (sub-one (suc h)) (record { place = below_at o S.place i m y.inside e; same = S.same ∙ y.same; more = y.more })

-- what a call of pass_edges tells at a node n that the rank j has come to
module _ {s : State} {k n j : ℕ} where
  pub node_ready : (h : ℕ) → (h ≡ 0 → ⊥) → Seeking s k n h j → NodeIn s n j
  node_ready zero z S = absurd (z refl)
  node_ready (suc h) z S = record { height = h; place = S.place; more = S.more }

  pub picked_inner : (h : ℕ) → (h ≡ 0 → ⊥) → Seeking s k n h j → (i : ℕ) → ((g : ℕ) (p : At s n (suc g)) → j < length (flat (suc (suc g)) p.tree) → Here (suc g) p.tree j i) → Picking s k (record { node = record { 0 = n }; height = h; at = record { 0 = i } })
  picked_inner zero z S i x = absurd (z refl)
  picked_inner (suc h) z S i x = picked_at S (x h S.place S.more)

  pub inner_edge : {w : List ℕ} (o : Holds w s) (h : ℕ) → (h ≡ 0 → ⊥) → Seeking s k n h j → (i r : ℕ) → ((g : ℕ) (p : At s n (suc g)) → j < length (flat (suc (suc g)) p.tree) → Onward (suc g) p.tree j i r) → (base n + 39 ≤ length w) × (i ≤ most)
  inner_edge o zero z S i r x = absurd (z refl)
  inner_edge o (suc h) z S i r x = edge_in o S.place i (x h S.place S.more).inside
