-- A push in words: where it begins, the node above, a new root.
-- Assumes nothing.
use Prim.Native.Nat.{ℕ, suc, ◌+◌, pred, ◌≤◌, ◌<◌}
use native.Mathlib.Omega.{arith}
use mathlib.Core.Path.{◌≡◌, refl, ap, ◌∙◌, sym, subst}
use mathlib.Core.Bool.{Bool, true, false}
use mathlib.Core.List.{List, [], ◌∷◌}
use lib.ListN.{length}
use borrow.Author.Tests.{le-leb, lt-leb}
use Rattle.std.specs.Prelude.{Some, None}
use Rattle.model.specs.Layout.{most, header, height_word, largest_count, word_at, length_word, parent_word, place_word}
use Rattle.model.specs.Tree.{Pair, Tree, Frame, Ctx, top, under, plug, fill}
use Rattle.model.specs.Insert.{is_full}
use Rattle.model.proofs.Plug.{length_fill}
use Rattle.node.proofs.Reading.{same_node}
use Rattle.node.specs.declared.NodeNo.{NodeNo}
use Rattle.node.specs.declared.Place.{Place}
use Rattle.node.specs.Reading.{Within, Has, ascent_of}
use Rattle.internal.specs.Inner.{PushReady, Pushable, push_head, push_nodes}
use Rattle.standing.specs.Standing.{Aside}
use Rattle.standing.specs.Heads.{Rest, head_words, top_of, HoleBy, ClosedBy, Uncounted}
use Rattle.standing.proofs.Scenes.{zoom_out, enter}
use Rattle.standing.proofs.Heads.{plug_root, plug_top}
use Rattle.fix.proofs.Holes.{hole_header, hole_long, hangs, node_within, node_long, ascent_is}
use Rattle.growing.proofs.Climbs.{PushCall}
use Rattle.growing.proofs.Steps.{start, push_ready, push_long, push_step}
use Rattle.model.specs.Load.{Loading, climb, push}
use Rattle.loading.proofs.Pushing.{Filling, Inner, climb_room, climb_full}
use Rattle.loading.proofs.Bridges.{free_step}
use Rattle.appending.specs.Pushes.{last_leaf, free_from, LoadIn, Rising, Roomy}
use Rattle.appending.proofs.Steps.{hole_of}

-- ---- in and out of a node, in words

pub outward : {w : List ℕ} {g : Rest} {h : ℕ} (f : Frame (Tree h)) (c : Ctx (suc h)) (t : Tree h) (free : List ℕ) → HoleBy Uncounted w g (under f c) t free → HoleBy Uncounted w g c (fill f.no f.left t f.right) free
outward f c t free H = record { nodes = H.nodes; arena = H.arena; stand = zoom_out f c t free H.stand; many = H.many; told = tt }

pub enter_in : {w : List ℕ} {g : Rest} {h : ℕ} (c : Ctx h) (t : Tree h) (free : List ℕ) → ClosedBy Uncounted w g (record { whole = plug c t; free = free }) → HoleBy Uncounted w g c t free
enter_in c t free H = record { nodes = H.nodes; arena = rw (plug_root c t, plug_top c t) at H.arena; stand = enter c t free H.stand; many = H.many; told = tt }

-- ---- the climb

top_least : {h : ℕ} (c : Ctx h) → h ≤ top_of c
top_least top = omega arith
top_least (under f c) = omega (arith, top_least c)

module _ {w : List ℕ} {g : Rest} {node levels : ℕ} {p : Pair} {t : Loading} (k : Rising w g node levels p t) where
  pub rising_within : Within w node
  rising_within = rw k.node_is at (node_within k.way k.tree (free_from g k.next) k.held)

  -- the header's height
  pub rising_low : levels ≤ header w height_word + 1
  rising_low =
      let e : header w height_word ≡ pred (top_of k.way) = hole_header k.way k.tree (free_from g k.next) k.held height_word (omega arith) in
      omega (arith, top_least k.way, k.levels_is)

  hung : ascent_of (word_at w node parent_word) (word_at w node place_word) ≡ hangs k.way
  hung = subst (λ (n : ℕ). ascent_of (word_at w n parent_word) (word_at w n place_word) ≡ hangs k.way) k.node_is (ascent_is k.way k.tree (free_from g k.next) k.held)

  -- what is known of the node above
  record Above (q : ℕ) : Type 0 where
    over : Ctx (suc (suc k.height))
    frame : Frame (Tree (suc k.height))
    above_held : HoleBy Uncounted w g (under frame over) k.tree (free_from g k.next)
    above_is : frame.no ≡ q
    above_filling : Filling (under frame over)
    above_same : climb (under frame over) k.tree p k.next ≡ t

  above : (q : NodeNo) (i : Place) → ascent_of (word_at w node parent_word) (word_at w node place_word) ≡ Some (q, i) → Above q.0
  above q i e = go k.way k.held k.filling k.same (sym hung ∙ e)
    where
      go : (c : Ctx (suc k.height)) → HoleBy Uncounted w g c k.tree (free_from g k.next) → Filling c → climb c k.tree p k.next ≡ t → hangs c ≡ Some (q, i) → Above q.0
      go top H fc s e = let z : ◌≡◌ {A = ℕ} 0 1 = cc in absurd (omega arith)
      go (under f c) H fc s e = let eq : f.no ≡ q.0 = same_node e in record { over = c; frame = f; above_held = H; above_is = eq; above_filling = fc; above_same = s }

  module _ (q : NodeNo) (i : Place) (e : ascent_of (word_at w node parent_word) (word_at w node place_word) ≡ Some (q, i)) where
    a : Above q.0
    a = above q i e

    abbrev node_above : Tree (suc (suc k.height))
    node_above = fill a.frame.no a.frame.left k.tree a.frame.right

    held_above : HoleBy Uncounted w g a.over node_above (free_from g k.next)
    held_above = outward a.frame a.over k.tree (free_from g k.next) a.above_held

    pub above_within : Within w q.0
    above_within = rw a.above_is at (node_within a.over node_above (free_from g k.next) held_above)

    above_long : word_at w q.0 length_word ≡ length a.frame.left + length a.frame.right
    above_long = subst (λ (n : ℕ). word_at w n length_word ≡ length a.frame.left + length a.frame.right) a.above_is (node_long a.over node_above (free_from g k.next) held_above ∙ length_fill a.frame.no a.frame.left k.tree a.frame.right)

    pub above_roomy : word_at w q.0 length_word < most → Roomy w g q.0 levels p t
    above_roomy l = record {
      height = k.height;
      way = a.over;
      frame = a.frame;
      tree = k.tree;
      next = k.next;
      held = a.above_held;
      node_is = a.above_is;
      levels_is = k.levels_is;
      last = a.above_filling.0;
      fits = lt-leb most (length a.frame.left + length a.frame.right) (omega (arith, above_long));
      room = k.room;
      same = a.above_same;
    }

    pub above_full : most ≤ word_at w q.0 length_word → Rising w g q.0 (levels + 1) p t
    above_full l = record {
      height = suc k.height;
      way = a.over;
      tree = node_above;
      next = k.next;
      held = held_above;
      node_is = a.above_is;
      levels_is = omega (arith, k.levels_is);
      filling = a.above_filling.4;
      room = k.room;
      same = sym (climb_full a.frame a.over k.tree p k.next (le-leb most (length a.frame.left + length a.frame.right) (omega (arith, above_long)))) ∙ a.above_same;
    }

-- ---- a new root

module _ {w : List ℕ} {g : Rest} {h : ℕ} (x : Tree (suc h)) (n : ℕ) (H : HoleBy Uncounted w g (top {h = suc h}) x (free_from g n)) (p : Pair) (room : n + 1 + suc h ≤ g.size) where
  abbrev rest_free : List ℕ
  rest_free = free_from g (suc n)

  H' : HoleBy Uncounted w g (top {h = suc h}) x (n ∷ rest_free)
  H' = subst (λ (f : List ℕ). HoleBy Uncounted w g (top {h = suc h}) x f) (free_step g.size n (omega arith)) H

  abbrev hd : List ℕ
  hd = head_words g x.no h (n ∷ rest_free)

  abbrev O : Aside H'.nodes (top {h = suc h}) x 0 tt (n ∷ rest_free)
  O = start (top {h = suc h}) x (n ∷ rest_free) H'.stand

  ready : PushReady hd H'.nodes (n ∷ rest_free)
  ready = push_ready x 0 tt n rest_free O hd refl refl refl (omega (arith, H'.stand.few, H'.many))

  pub root_has : Has w (λ hd ns. Pushable hd ns)
  root_has = record { head = hd; nodes = H'.nodes; arena = H'.arena; holds = (n ∷ rest_free, ready) }

  pub root_roomy : (w₁ : List ℕ) (m : ℕ) → PushCall w w₁ m → Roomy w₁ g m (suc h) p (climb {h = suc h} (top {h = suc h}) x p n)
  root_roomy w₁ m call =
      let q = call hd H'.nodes (n ∷ rest_free) ready H'.arena in
      let e : push_head hd (n ∷ rest_free) ≡ head_words g n (suc h) rest_free = (let b : h + 1 ≡ suc h = omega arith in rw b refl) in
      let en : suc n ≡ n + 1 = omega arith in
      record {
        height = h;
        way = top;
        frame = record { no = n; left = []; right = [] };
        tree = x;
        next = n + 1;
        held = subst (λ (i : ℕ). HoleBy Uncounted w₁ g {h = suc h} (under (record { no = n; left = []; right = [] }) top) x (free_from g i)) en (record {
          nodes = push_nodes hd (n ∷ rest_free) H'.nodes;
          arena = rw e at q.1;
          stand = hole_of (under (record { no = n; left = []; right = [] }) top) x rest_free (push_step x 0 tt n rest_free O hd refl);
          many = push_long x 0 tt n rest_free O hd refl ∙ H'.many;
          told = tt;
        });
        node_is = sym q.0;
        levels_is = refl;
        last = refl;
        fits = refl;
        room = room;
        same = refl;
      }

module _ {w : List ℕ} {g : Rest} {node levels : ℕ} {p : Pair} {t : Loading} (k : Rising w g node levels p t) (e : ascent_of (word_at w node parent_word) (word_at w node place_word) ≡ None) where
  -- what is asked for it, and what is left
  pub record Rooting : Type 0 where
    pub asks : Has w (λ hd ns. Pushable hd ns)
    pub leaves : (w₁ : List ℕ) (m : ℕ) → PushCall w w₁ m → Roomy w₁ g m levels p t

  pub rooting : Rooting
  rooting = go k.way k.held k.same (sym (hung k) ∙ e)
    where
      go : (c : Ctx (suc k.height)) → HoleBy Uncounted w g c k.tree (free_from g k.next) → climb c k.tree p k.next ≡ t → hangs c ≡ None → Rooting
      go (under f c) H s e = let z : ◌≡◌ {A = ℕ} 0 1 = cc in absurd (omega arith)
      go top H s e =
          let r : k.next + 1 + suc k.height ≤ g.size = subst (λ (l : Loading). l.next ≤ g.size) (sym s) k.room in
          record {
            asks = root_has k.tree k.next H p r;
            leaves = λ w₁ m call. subst (λ (l : ℕ). Roomy w₁ g m l p t) k.levels_is (subst (λ (l : Loading). Roomy w₁ g m (suc k.height) p l) s (root_roomy k.tree k.next H p r w₁ m call));
          }

-- ---- where it begins: at a full leaf

pub rising_start : {w : List ℕ} {g : Rest} {leaf : ℕ} {l : Loading} (p : Pair) → LoadIn w g leaf l → (push p l).next ≤ g.size → most ≤ word_at w leaf length_word → Rising w g leaf 1 p (push p l)
rising_start {w} {g} {leaf} {l} p o room full = go l.way o.held o.leaf_is o.filling o.inner refl
  where
    go : (c : Ctx 0) → ClosedBy Uncounted w g (record { whole = plug c tt; free = free_from g l.next }) → last_leaf c ≡ leaf → Filling c → Inner c → c ≡ l.way → Rising w g leaf 1 p (push p l)
    go top H e fc i s = absurd i
    go (under f c) H e fc i s =
        let u = fill f.no f.left tt f.right in
        let h = enter_in c u (free_from g l.next) H in
        let long : word_at w leaf length_word ≡ length f.left + length f.right = subst (λ (n : ℕ). word_at w n length_word ≡ length f.left + length f.right) e (node_long c u (free_from g l.next) h ∙ length_fill f.no f.left tt f.right) in
        record {
          height = 0;
          way = c;
          tree = u;
          next = l.next;
          held = h;
          node_is = e;
          levels_is = refl;
          filling = fc.4;
          room = room;
          same = sym (climb_full f c tt p l.next (le-leb most (length f.left + length f.right) (omega (arith, long)))) ∙ ap (λ (d : Ctx 0). climb d tt p l.next) s;
        }

-- ---- bounds

climb_next : {h : ℕ} (c : Ctx h) (x : Tree h) (p : Pair) (n : ℕ) → n + h ≤ (climb c x p n).next
climb_next top x p n = omega arith
climb_next (under {h = h} f c) x p n = by (is_full f) refl (climb_next c (fill f.no f.left x f.right) p n)
  where
    by : (b : Bool) → is_full f ≡ b → n + suc h ≤ (climb c (fill f.no f.left x f.right) p n).next → n + h ≤ (climb (under f c) x p n).next
    by false e ih = rw (climb_room f c x p n e) (omega arith)
    by true e ih = rw (climb_full f c x p n e) (omega arith)

module _ {w : List ℕ} {g : Rest} {node levels : ℕ} {p : Pair} {t : Loading} (k : Rising w g node levels p t) where
  pub rising_few : levels ≤ largest_count
  rising_few =
      let e = ap (λ (l : Loading). l.next) k.same in
      omega (arith, climb_next k.way k.tree p k.next, k.room, k.levels_is, k.held.stand.few, k.held.many)

  pub rising_head : height_word < length w
  rising_head = omega (arith, hole_long k.way k.tree (free_from g k.next) k.held)
