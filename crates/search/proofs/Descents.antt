-- A descent that has come to a node: what the node's keys are, and how the search ends there or goes on.
-- Assumes nothing.
use Rattle.std.proofs.Common.{Ok, Err, ℕ, zero, suc, ◌+◌, ◌-◌, ◌≤◌, ◌<◌, sub-one, arith, ◌≡◌, refl, sym, ap, ◌∙◌, subst, List, [], ◌∷◌, length}
use lib.ListN.{length-map}
use Rattle.model.specs.Lists.{part, Rises}
use Rattle.model.specs.Layout.{most, base, node_size, word_at, length_word, keys_word, edges_word}
use Rattle.model.specs.Tree.{Ctx, top, under, Whole, flat_of}
use Rattle.model.specs.Map.{Rising}
use Rattle.model.specs.Search.{seek, search}
use Rattle.model.specs.declared.SearchBound.{SearchBound}
use Rattle.model.specs.declared.Range.{Range}
use Rattle.model.specs.Range.{IndexResult, kv, edge, lower_edge, upper_edge, keys_of, open_at, fork, fork_of}
use Rattle.model.specs.State.{State}
use Rattle.model.specs.Promise.{Holds}
use Rattle.model.proofs.Sizes.{Len, RootLen, FullWhole, of_full, fits_node, unplug_full}
use Rattle.model.proofs.Forks.{Ascends, node_ascends, down_at, open_length, seek_kv, seek_edge, lower_inside, low_at, high_at, bounds_at, fork_here, fork_below}
use Rattle.model.proofs.Standing.{At, stands, below_at, length_at, short_at, keys_at}
use Rattle.search.specs.declared.SearchResult.TheVariants.{Found, GoDown}
use Rattle.node.specs.declared.Place.{Place}
use Rattle.search.specs.Results.{handle, leaf_edge, spotted, edged, forked}
use Rattle.search.proofs.Indexes.{index_from}

rises : (ks : List ℕ) → Ascends ks → Rises ks
rises [] a = tt
rises (k ∷ ks) a = (a.0, rises ks a.1)

-- a node with no pairs has no levels below it
none_low : (h : ℕ) (c : Ctx (suc h)) (n : ℕ) → Len c n → n ≡ 0 → h ≡ 0
none_low zero c n l e = refl
none_low (suc h) top n l e = absurd (omega (arith, l.0))
none_low (suc h) (under f c) n l e = absurd (omega (arith, l.0))

-- ---- the node that a descent has come to

module _ {w : List ℕ} {s : State} (o : Holds w s) {n h : ℕ} (p : At s n h) where
  pub at_within : (base n + node_size ≤ length w) × (word_at w n length_word ≤ most)
  at_within = let a = stands o p in (a.within, omega (arith, length_at a, short_at a))

  module _ (ks : List ℕ) (q : ks ≡ part w (base n + keys_word) (word_at w n length_word)) where
    pub keys_are : ks ≡ keys_of p.tree.rest
    keys_are = let a = stands o p in q ∙ keys_at a (word_at w n length_word) (length_at a)

    pub keys_many : length ks ≡ length p.tree.rest
    keys_many = ap length keys_are ∙ simp length-map

    pub keys_few : length ks ≤ most
    keys_few = omega (arith, keys_many, short_at (stands o p))

    pub keys_rise : Rises ks
    keys_rise = rw keys_are (rises (keys_of p.tree.rest) (node_ascends p.ctx p.tree (subst (λ (x : Whole). Rising (flat_of x)) (sym p.whole) o.sound.rising)))

    -- only a leaf has none: the root
    pub keys_none : length ks ≡ 0 → h ≡ 0
    keys_none e =
        let f : FullWhole s.whole = of_full s.whole.height s.whole.root o.sound.full in
        none_low h p.ctx (length p.tree.rest) (fits_node RootLen p.ctx p.tree (unplug_full p.ctx p.tree (subst FullWhole (sym p.whole) f)).1).0 (sym keys_many ∙ e)

-- the leaf edge i of a leaf
pub leaf_at : {s : State} {n : ℕ} (p : At s n 0) (i : ℕ) → i ≤ length p.tree.rest → leaf_edge (down_at p.ctx p.tree i) ≡ handle n 0 i
leaf_at {n} p i l = ap (λ (m : ℕ). handle m 0 (length (open_at i [] p.tree.first p.tree.rest).left)) p.number ∙ ap (λ (j : ℕ). handle n 0 j) (open_length i [] p.tree.first p.tree.rest l ∙ omega arith)

-- ---- the search of the key k

-- what is left to do at a node
pub record Seeking (k : ℕ) (s : State) (n h : ℕ) : Type 0 where
  pub place : At s n h
  pub same : search k s.whole ≡ seek k (suc h) place.ctx place.tree

module _ {w : List ℕ} {s : State} (o : Holds w s) (k n : ℕ) (ks : List ℕ) (q : ks ≡ part w (base n + keys_word) (word_at w n length_word)) (i : ℕ) where
  in_keys : {h : ℕ} (p : At s n h) (r : IndexResult) → index_from k ks 0 ≡ r → index_from k (keys_of p.tree.rest) 0 ≡ r
  in_keys p r e = subst (λ (l : List ℕ). index_from k l 0 ≡ r) (keys_are o p ks q) e

  pub found : (h : ℕ) → Seeking k s n h → index_from k ks 0 ≡ kv i → Found (handle n h i) ≡ spotted (search k s.whole)
  found h y e =
      let p = y.place in
      let z = seek_kv k p.ctx p.tree i (in_keys p (kv i) e) in
      sym (ap spotted (y.same ∙ z.2) ∙ (ap (λ (m : ℕ). Found (handle m h (length (open_at i [] p.tree.first p.tree.rest).left))) p.number ∙ ap (λ (j : ℕ). Found (handle n h j)) z.3))

  -- at a leaf the search ends
  pub ended : (h : ℕ) → Seeking k s n h → h ≡ 0 → index_from k ks 0 ≡ edge i → GoDown (handle n h i) ≡ spotted (search k s.whole)
  ended zero y z e =
      let p = y.place in
      let d = seek_edge k p.ctx p.tree i (in_keys p (edge i) e) in
      sym (ap spotted (y.same ∙ d.0) ∙ ap GoDown (leaf_at p i d.1))
  ended (suc h) y z e = absurd (omega arith)

  -- above a leaf it goes on
  pub onward : (h : ℕ) → Seeking k s n h → (h ≡ 0 → ⊥) → index_from k ks 0 ≡ edge i → (m : ℕ) → m ≡ word_at w n (edges_word + i) → Seeking k s m (h - 1)
  onward zero y z e m em = absurd (z refl)
  onward (suc h) y z e m em =
      let p = y.place in
      let d = seek_edge k p.ctx p.tree i (in_keys p (edge i) e) in
      rw (sub-one (suc h)) (record { place = below_at o p i m d.1 em; same = y.same ∙ d.0 })

  pub edge_low : (h : ℕ) → Seeking k s n h → index_from k ks 0 ≡ edge i → i ≤ most
  edge_low h y e = let p = y.place in omega (arith, (seek_edge k p.ctx p.tree i (in_keys p (edge i) e)).1, short_at (stands o p))

-- ---- the fork of a range

pub low_few : (b : SearchBound) (ks : List ℕ) (l : Place × SearchBound) → l ≡ edged (lower_edge b ks) → l.0.0 ≤ length ks
low_few b ks l e = rw e (lower_inside b ks)

-- what is left to do at a node, for the bounds b
pub record Forking (r : Range) (s : State) (b : Range) (n h : ℕ) : Type 0 where
  pub place : At s n h
  pub same : fork_of r s.whole ≡ fork b (suc h) place.ctx place.tree

module _ {w : List ℕ} {s : State} (o : Holds w s) (r b : Range) (n : ℕ) (ks : List ℕ) (q : ks ≡ part w (base n + keys_word) (word_at w n length_word))
    (l u : Place × SearchBound) (el : l ≡ edged (lower_edge b.start ks)) (eu : u ≡ edged (upper_edge b.end l.0.0 ks)) where
  abbrev bounds : Range
  bounds = record { start = l.1; end = u.1 }

  low_is : {h : ℕ} (p : At s n h) → l ≡ edged (low_at b p.ctx p.tree)
  low_is p = el ∙ ap (λ (x : List ℕ). edged (lower_edge b.start x)) (keys_are o p ks q)

  high_is : {h : ℕ} (p : At s n h) → u ≡ edged (high_at b p.ctx p.tree)
  high_is p = eu ∙ (ap (λ (x : List ℕ). edged (upper_edge b.end l.0.0 x)) (keys_are o p ks q) ∙ ap (λ (x : Place × SearchBound). edged (upper_edge b.end x.0.0 (keys_of p.tree.rest))) (low_is p))

  low_inside : {h : ℕ} (p : At s n h) → (low_at b p.ctx p.tree).at ≤ length p.tree.rest
  low_inside p = simp length-map at (lower_inside b.start (keys_of p.tree.rest))

  pub parting : (h : ℕ) → Forking r s b n h → l.0.0 < u.0.0 → Ok (record { node = record { 0 = n }; height = h; lower = l.0; upper = u.0; bounds = bounds }) ≡ forked (fork_of r s.whole)
  parting h y v =
      let p = y.place in
      let a = low_is p in
      let c = high_is p in
      rw (a, c) (sym (ap forked (y.same ∙ fork_here b p.ctx p.tree (rw (a, c) at v))
      ∙ ap (λ (m : ℕ). Ok (record { node = record { 0 = m }; height = h; lower = record { 0 = (low_at b p.ctx p.tree).at }; upper = record { 0 = (high_at b p.ctx p.tree).at }; bounds = bounds_at b p.ctx p.tree })) p.number))

  pub coinciding : (h : ℕ) → Forking r s b n h → h ≡ 0 → u.0.0 ≤ l.0.0 → Err (record { node = record { 0 = n }; height = 0; at = l.0 }) ≡ forked (fork_of r s.whole)
  coinciding zero y z v =
      let p = y.place in
      let a = low_is p in
      let c = high_is p in
      rw a (sym (ap forked (y.same ∙ fork_below b p.ctx p.tree (rw (a, c) at v)) ∙ ap Err (leaf_at p (low_at b p.ctx p.tree).at (low_inside p))))
  coinciding (suc h) y z v = absurd (omega arith)

  pub forking_on : (h : ℕ) → Forking r s b n h → (h ≡ 0 → ⊥) → u.0.0 ≤ l.0.0 → (m : ℕ) → m ≡ word_at w n (edges_word + l.0.0) → Forking r s bounds m (h - 1)
  forking_on zero y z v m em = absurd (z refl)
  forking_on (suc h) y z v m em =
      let p = y.place in
      let a = low_is p in
      let c = high_is p in
      rw (sub-one (suc h), a, c) (record { place = below_at o p (low_at b p.ctx p.tree).at m (low_inside p) (rw a at em); same = y.same ∙ fork_below b p.ctx p.tree (rw (a, c) at v) })
