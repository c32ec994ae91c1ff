-- A climb by parent words and a dive by edges, each one law for both directions.
-- Assumes nothing.
use Rattle.std.proofs.Common.{Some, None, ℕ, zero, suc, ◌+◌, ◌-◌, pred, ◌≤◌, ◌<◌, add-one, sub-one, arith, ◌≡◌, refl, sym, ap, ◌∙◌, subst, Bool, List, [], ◌∷◌, length, ne_eqb}
use Rattle.std.specs.Prelude.{Some, None}
use Rattle.model.specs.Layout.{none, most, base, node_size, header, height_word, word_at, length_word, parent_word, place_word, edges_word}
use Rattle.model.specs.Tree.{Item, Tree, Frame, Ctx, top, under, Whole, plug, fill}
use Rattle.model.specs.Search.{Spot, gap, sink}
use Rattle.model.specs.Walk.{right_in, right_of, left_in, left_of}
use Rattle.model.specs.Range.{Opened, open_at, keys_of}
use Rattle.model.specs.State.{State}
use Rattle.model.specs.Sound.{Sound, RootFull}
use Rattle.model.specs.Promise.{Holds}
use Rattle.model.proofs.Plug.{length_fill}
use Rattle.model.proofs.Forks.{StopsAt, down_at, hole_at, sink_open, open_filled}
use Rattle.model.proofs.Held.{words_long, words_header}
use Rattle.model.proofs.Standing.{parent_of, index_of, NodeAt, node_at, length_at, At, stands, below_at, short_at}
use Rattle.node.proofs.Reading.{same_node, same_place}
use Rattle.node.specs.declared.NodeNo.{NodeNo}
use Rattle.node.specs.declared.Place.{Place}
use Rattle.node.specs.Reading.{ascent_of}
use Rattle.search.specs.declared.Handle.{Handle}
use Rattle.search.specs.Results.{handle, leaf_edge}
use Rattle.search.proofs.Descents.{leaf_at}
use Rattle.navigate.specs.Places.{EdgeAt, KvAt, stepped}
use Rattle.navigate.proofs.Pairs.{node, kv_at_node, kv_length}

-- ---- up

-- the edge i of the node n, with h levels below the node; of the hole there and what fills it Q holds
pub record Climb (Q : (h : ℕ) → Ctx h → Tree h → Type 0) (s : State) (n h i : ℕ) : Type 0 where
  pub frame : Frame (Tree h)
  pub ctx : Ctx (suc h)
  pub tree : Tree h
  pub whole : plug (under frame ctx) tree ≡ s.whole
  pub node_is : frame.no ≡ n
  pub at_is : length frame.left ≡ i
  pub holds : Q h (under frame ctx) tree

-- the levels above
abbrev depth : {h : ℕ} → Ctx h → ℕ
depth top = 0
depth (under f c) = suc (depth c)

plug_height : {h : ℕ} (c : Ctx h) (t : Tree h) → (plug c t).height ≡ depth c + h
plug_height top t = omega arith
plug_height (under f c) t = plug_height c (fill f.no f.left t f.right) ∙ omega arith

module _ (Q : (h : ℕ) → Ctx h → Tree h → Type 0) {w : List ℕ} {s : State} (o : Holds w s) {n h i : ℕ} (y : Climb Q s n h i) where
  -- the node itself
  abbrev here : Tree (suc h)
  here = fill y.frame.no y.frame.left y.tree y.frame.right

  pub climb_at : NodeAt w n y.ctx here
  climb_at = subst (λ (m : ℕ). NodeAt w m y.ctx here) y.node_is (node_at o y.ctx here y.whole)

  -- how many pairs stand right of the edge
  pub climb_length : word_at w n length_word ≡ i + length y.frame.right
  climb_length = length_at climb_at ∙ (length_fill y.frame.no y.frame.left y.tree y.frame.right ∙ ap (λ (j : ℕ). j + length y.frame.right) y.at_is)

  pub climb_high : suc h ≤ s.whole.height
  climb_high = omega (arith, ap (λ (x : Whole). x.height) (sym y.whole) ∙ plug_height y.ctx here)

  link_is : ascent_of (word_at w n parent_word) (word_at w n place_word) ≡ ascent_of (parent_of y.ctx) (index_of y.ctx)
  link_is = let r = climb_at.reads in ap (λ (p : ℕ). ascent_of p (word_at w n place_word)) r.parent_is ∙ ap (ascent_of (parent_of y.ctx)) r.place_is

-- a node's number is no NONE
number_low : {w : List ℕ} {s : State} → Holds w s → {n h : ℕ} {c : Ctx (suc h)} {t : Tree (suc h)} → NodeAt w n c t → n ≡ none → ⊥
number_low {s} o a e = let l = a.within in let k : base s.size ≡ _ = sym (ap length o.words ∙ words_long o.sound) in omega (arith, o.sound.few)

module _ (Q : (h : ℕ) → Ctx h → Tree h → Type 0) {w : List ℕ} {s : State} (o : Holds w s) (n h i : ℕ) (y : Climb Q s n h i) (more : Q (suc h) y.ctx (here Q o y)) where
  -- the parent of what fills a hole below a node
  parent_is : (f : Frame (Tree (suc h))) (c : Ctx (suc (suc h))) (t : Tree (suc h)) → plug (under f c) t ≡ s.whole → ascent_of f.no (length f.left) ≡ Some (record { 0 = f.no }, record { 0 = length f.left })
  parent_is f c t e = rw (ne_eqb f.no none (number_low o (node_at o c (fill f.no f.left t f.right) e)), ascent_of)

  -- at the root there is no further edge
  pub climb_root : ascent_of (word_at w n parent_word) (word_at w n place_word) ≡ None → (t : Tree (suc h)) × Q (suc h) top t
  climb_root e = go y.ctx (here Q o y) y.whole more (sym (link_is Q o y) ∙ e)
    where
      go : (c : Ctx (suc h)) (t : Tree (suc h)) → plug c t ≡ s.whole → Q (suc h) c t → ascent_of (parent_of c) (index_of c) ≡ None → (t : Tree (suc h)) × Q (suc h) top t
      go top t q m r = (t, m)
      go (under f c) t q m r = let a = parent_is f c t q in let z : ◌≡◌ {A = ℕ} 0 1 = cc in absurd (omega arith)

  -- below it there is
  pub climb_on : (p : NodeNo) (j : Place) → ascent_of (word_at w n parent_word) (word_at w n place_word) ≡ Some (p, j) → Climb Q s p.0 (h + 1) j.0
  climb_on p j e = rw add-one (go y.ctx (here Q o y) y.whole more (sym (link_is Q o y) ∙ e))
    where
      go : (c : Ctx (suc h)) (t : Tree (suc h)) → plug c t ≡ s.whole → Q (suc h) c t → ascent_of (parent_of c) (index_of c) ≡ Some (p, j) → Climb Q s p.0 (suc h) j.0
      go top t q m r = let z : ◌≡◌ {A = ℕ} 0 1 = cc in absurd (omega arith)
      go (under f c) t q m r =
          let a = parent_is f c t q in
          record { frame = f; ctx = c; tree = t; whole = q; node_is = same_node (sym a ∙ r); at_is = same_place (sym a ∙ r); holds = m }

-- ---- down

-- the edge i of the node n, with h levels below the node; the descent z of the test f has come there
pub record Dive (f : ℕ → Bool) (z : Ctx zero) (s : State) (n h i : ℕ) : Type 0 where
  pub place : At s n h
  pub inside : i ≤ length place.tree.rest
  pub same : z ≡ sink (λ p. f p.key) h (down_at place.ctx place.tree i) (hole_at place.tree i)

module _ (f : ℕ → Bool) (z : Ctx zero) {w : List ℕ} {s : State} (o : Holds w s) (n h i : ℕ) (y : Dive f z s n h i) where
  pub dive_within : (base n + node_size ≤ length w) × (i ≤ most)
  dive_within = let a = stands o y.place in (a.within, omega (arith, y.inside, short_at a))

pub dive_ended : (f : ℕ → Bool) (z : Ctx zero) {s : State} (n h i : ℕ) → Dive f z s n h i → h ≡ 0 → handle n 0 i ≡ leaf_edge z
dive_ended f z n zero i y e = sym (ap leaf_edge y.same ∙ leaf_at y.place i y.inside)
dive_ended f z n (suc h) i y e = absurd (omega arith)

-- the node below, and the edge of it where the test stops
pub dive_below : (f : ℕ → Bool) (z : Ctx zero) {w : List ℕ} {s : State} (o : Holds w s) (n h i : ℕ) → Dive f z s n h i → (h ≡ 0 → ⊥) → (m : ℕ) → m ≡ word_at w n (edges_word + i) → At s m (h - 1)
dive_below f z o n zero i y e m em = absurd (e refl)
dive_below f z o n (suc h) i y e m em = rw (sub-one (suc h)) (below_at o y.place i m y.inside em)

pub dive_on : (f : ℕ → Bool) (z : Ctx zero) {w : List ℕ} {s : State} (o : Holds w s) (n h i : ℕ) → Dive f z s n h i → (h ≡ 0 → ⊥) → (m : ℕ) → m ≡ word_at w n (edges_word + i)
    → (j : ℕ) → ((p : At s m (h - 1)) → (j ≤ length p.tree.rest) × StopsAt f j (keys_of p.tree.rest)) → Dive f z s m (h - 1) j
dive_on f z o n zero i y e m em j stop = absurd (e refl)
dive_on f z {s = s} o n (suc h) i y e m em j stop = rw (sub-one (suc h)) (go (rw (sub-one (suc h)) at stop))
  where
    go : ((p : At s m h) → (j ≤ length p.tree.rest) × StopsAt f j (keys_of p.tree.rest)) → Dive f z s m h j
    go stop =
        let p = below_at o y.place i m y.inside em in
        record { place = p; inside = (stop p).0; same = y.same ∙ sink_open f p.ctx p.tree j (stop p).1 }

-- ---- where a climb begins, and how high it goes

-- a leaf edge
pub climb_start : (Q : (h : ℕ) → Ctx h → Tree h → Type 0) {s : State} → Sound s → (d : Handle) (y : EdgeAt s d) → Q 0 y.way tt → Climb Q s d.node.0 d.height d.at.0
climb_start Q {s} o d y q = go y.way y.whole y.is q
  where
    go : (c : Ctx zero) → plug c tt ≡ s.whole → d ≡ leaf_edge c → Q 0 c tt → Climb Q s d.node.0 d.height d.at.0
    go top e i q = absurd (subst (λ (x : Whole). RootFull x.height x.root) (sym e) o.full)
    go (under f c) e i q = subst (λ (x : Handle). Climb Q s x.node.0 x.height x.at.0) (sym i) (record { frame = f; ctx = c; tree = tt; whole = e; node_is = refl; at_is = refl; holds = q })

pub climb_top : (Q : (h : ℕ) → Ctx h → Tree h → Type 0) {w : List ℕ} {s : State} → Holds w s → {n h i : ℕ} → Climb Q s n h i → h ≤ header w height_word
climb_top Q {w} {s} o y = let e : header w height_word ≡ pred s.whole.height = ap (λ (x : List ℕ). header x height_word) o.words ∙ words_header o.sound height_word (omega arith) in omega (arith, climb_high Q o y)

-- a pair of the node
kv_at : (Q : (h : ℕ) → Ctx h → Tree h → Type 0) {w : List ℕ} {s : State} (o : Holds w s) {n h i : ℕ} (y : Climb Q s n h i) {j : ℕ} (k : ℕ) → j ≡ k → Some (handle y.frame.no h j) ≡ Some (handle n h k)
kv_at Q o {n} {h} y {j} k e = ap (λ (m : ℕ). Some (handle m h j)) y.node_is ∙ ap (λ (j : ℕ). Some (handle n h j)) e

-- ---- to the right

module _ (z : Spot) (d : Ctx zero) where
  abbrev pub Nexts : (h : ℕ) → Ctx h → Tree h → Type 0
  Nexts h c t = z ≡ right_of (gap d) c t

  module _ {w : List ℕ} {s : State} (o : Holds w s) (n h i : ℕ) (y : Climb Nexts s n h i) where
    pub next_here : i < word_at w n length_word → Some (handle n h i) ≡ stepped z
    next_here l = go y.frame.right refl
      where
        go : (q : List (Item (Tree h))) → y.frame.right ≡ q → Some (handle n h i) ≡ stepped z
        go [] e = absurd (omega (arith, climb_length Nexts o y, ap length e))
        go (x ∷ r) e = sym (ap stepped (y.holds ∙ ap (λ (r : List (Item (Tree h))). right_in y.ctx y.frame.no y.frame.left y.tree r (right_of (gap d) y.ctx (here Nexts o y))) e) ∙ kv_at Nexts o y i y.at_is)

    pub next_above : word_at w n length_word ≤ i → Nexts (suc h) y.ctx (here Nexts o y)
    next_above l = go y.frame.right refl
      where
        go : (q : List (Item (Tree h))) → y.frame.right ≡ q → Nexts (suc h) y.ctx (here Nexts o y)
        go [] e = y.holds ∙ ap (λ (r : List (Item (Tree h))). right_in y.ctx y.frame.no y.frame.left y.tree r (right_of (gap d) y.ctx (here Nexts o y))) e
        go (x ∷ r) e = absurd (omega (arith, climb_length Nexts o y, ap length e))

    pub next_ended : (t : Tree (suc h)) × Nexts (suc h) top t → None ≡ stepped z
    next_ended e = sym (ap stepped e.1)

-- ---- to the left

module _ (z : Spot) (d : Ctx zero) where
  abbrev pub Backs : (h : ℕ) → Ctx h → Tree h → Type 0
  Backs h c t = z ≡ left_of (gap d) c t

  module _ {w : List ℕ} {s : State} (o : Holds w s) (n h i : ℕ) (y : Climb Backs s n h i) where
    from_left : (q : List (Item (Tree h))) → y.frame.left ≡ q → z ≡ left_in y.ctx y.frame.no q y.tree y.frame.right (left_of (gap d) y.ctx (here Backs o y))
    from_left q e = y.holds ∙ ap (λ (l : List (Item (Tree h))). left_in y.ctx y.frame.no l y.tree y.frame.right (left_of (gap d) y.ctx (here Backs o y))) e

    pub back_here : 1 ≤ i → Some (handle n h (i - 1)) ≡ stepped z
    back_here l = go y.frame.left refl
      where
        go : (q : List (Item (Tree h))) → y.frame.left ≡ q → Some (handle n h (i - 1)) ≡ stepped z
        go [] e = absurd (omega (arith, y.at_is, ap length e))
        go (x ∷ q) e = sym (ap stepped (from_left (x ∷ q) e) ∙ kv_at Backs o y (i - 1) (omega (arith, y.at_is, ap length e)))

    pub back_above : i ≤ 0 → Backs (suc h) y.ctx (here Backs o y)
    back_above l = go y.frame.left refl
      where
        go : (q : List (Item (Tree h))) → y.frame.left ≡ q → Backs (suc h) y.ctx (here Backs o y)
        go [] e = from_left [] e
        go (x ∷ q) e = absurd (omega (arith, y.at_is, ap length e))

    pub back_ended : (t : Tree (suc h)) × Backs (suc h) top t → None ≡ stepped z
    back_ended e = sym (ap stepped e.1)

-- ---- down from beside a pair

open_zero : {A : Type 0} (l : List (Item A)) (e : A) (r : List (Item A)) → open_at 0 l e r ≡ record { left = l; hole = e; right = r }
open_zero l e [] = refl
open_zero l e (x ∷ r) = refl

module _ (f : ℕ → Bool) {s : State} (d : Handle) (y : KvAt s d) where
  -- from an edge of the node that is opened so
  from_edge : (i : ℕ) (o : Opened (Tree d.height)) → i ≤ length (node d y).rest → open_at i [] (node d y).first (node d y).rest ≡ o
      → Dive f (sink (λ p. f p.key) d.height (under (record { no = y.no; left = o.left; right = o.right }) y.ctx) o.hole) s d.node.0 d.height i
  from_edge i o l e = record { place = kv_at_node d y; inside = l; same = ap (λ (q : Opened (Tree d.height)). sink (λ p. f p.key) d.height (under (record { no = y.no; left = q.left; right = q.right }) y.ctx) q.hole) (sym e) }

  -- right of the pair, and left of it
  pub dive_right : Dive f (sink (λ p. f p.key) d.height (under (record { no = y.no; left = record { pair = y.item.pair; edge = y.hole } ∷ y.left; right = y.right }) y.ctx) y.item.edge) s d.node.0 d.height (d.at.0 + 1)
  dive_right =
      from_edge (d.at.0 + 1) (record { left = record { pair = y.item.pair; edge = y.hole } ∷ y.left; hole = y.item.edge; right = y.right }) (omega (arith, kv_length d y))
      (ap (λ (i : ℕ). open_at i [] (node d y).first (node d y).rest) (let z : d.at.0 + 1 ≡ length y.left + 1 = omega (arith, y.at_is) in z)
      ∙ (open_filled y.left y.hole (y.item ∷ y.right) 1 ∙ open_zero (record { pair = y.item.pair; edge = y.hole } ∷ y.left) y.item.edge y.right))

  pub dive_left : Dive f (sink (λ p. f p.key) d.height (under (record { no = y.no; left = y.left; right = y.item ∷ y.right }) y.ctx) y.hole) s d.node.0 d.height d.at.0
  dive_left =
      from_edge d.at.0 (record { left = y.left; hole = y.hole; right = y.item ∷ y.right }) (omega (arith, kv_length d y))
      (ap (λ (i : ℕ). open_at i [] (node d y).first (node d y).rest) (let z : d.at.0 ≡ length y.left + 0 = omega (arith, y.at_is) in z) ∙ open_filled y.left y.hole (y.item ∷ y.right) 0)
