-- The steps of the climb, on the list of nodes: its start, a pair that fits, a node split, a root put on top; and a pair replaced.
-- Assumes nothing.
use Prim.Native.Nat.{ℕ, zero, suc, ◌+◌, ◌≤◌, ◌<◌}
use native.Mathlib.Nat.{not-suc-le-zero}
use native.Mathlib.Omega.{arith}
use mathlib.Core.Path.{◌≡◌, refl, ap, ap₂, ◌∙◌, sym, subst}
use mathlib.Core.Logic.{◌≢◌}
use mathlib.Core.Bool.{true, false}
use mathlib.Core.List.{List, [], ◌∷◌, map, tail}
use lib.ListN.{length, take, drop, length-map, length-drop}
use lib.Seq.{length-take-le}
use borrow.Author.Tests.{leb-true, leb-false}
use Rattle.model.specs.Lists.{times}
use Rattle.model.specs.Tree.{Pair, Item, Tree, Frame, Ctx, top, under, fill, Twin, has, has_ctx}
use Rattle.model.specs.Layout.{none, most, internal, largest_count, NodeVal, nth}
use Rattle.model.specs.Words.{kind, root_no, first_or}
use Rattle.model.specs.Insert.{Side, left, right, Split, splitpoint, pair_of, edge_of, into_left, into_right, is_full}
use Rattle.model.proofs.Lists.{one_same, one_other}
use Rattle.model.proofs.Plug.{length_fill}
use Rattle.model.proofs.Sizes.{fill_parts}
use Rattle.model.proofs.Climb.{Goes, low, high, goes, halve_all, halved, halved_has, fill_full, fill_insert}
use Rattle.slices.proofs.Laws.{map_insert, map_take, map_drop}
use Rattle.node.specs.Reading.{pair_at}
use Rattle.store.specs.Links.{body_of, first_free, free_nodes, TakeReady}
use Rattle.leaf.specs.Split.{split_nodes, CutReady}
use Rattle.internal.specs.Inner as header
use Rattle.internal.specs.Inner.{push_nodes}
use Rattle.standing.specs.Kept.{Links, Kept}
use Rattle.standing.specs.Standing.{numbered, content, content_of, Stands, root_of, counts, Hole, Aside, Open, Loose}
use Rattle.standing.proofs.Freed.{open_frees}
use Rattle.standing.proofs.Leads.{one_self, link_parent}
use Rattle.standing.proofs.Relinks.{body_state}
use Rattle.standing.proofs.Changes.{kept_trans, kept_more}
use Rattle.standing.proofs.Frames.{stands_kept, all_kept, way_kept, chain_kept}
use Rattle.standing.proofs.Contents.{content_fill}
use Rattle.growing.specs.Steps.{fit_at, FitsAt, Splits, half}
use Rattle.shrinking.proofs.Steps.{content_pairs, root_in}
use Rattle.growing.proofs.Puts.{Crowns, split_kept, split_loose, push_kept, push_body, push_root}
use Rattle.shrinking.proofs.Items.{body_parts, pair_in}
use Rattle.growing.proofs.Bodies.{new_child, Takes, splitting, fitting_ready, fitting_kept, fitting_body, low_body, high_body}

-- ---- the root, and a tree beside the hole

child_in : (h : ℕ) (y : Tree h) (q : ℕ) → times q (new_child h (root_no h y)) ≤ has q h y
child_in zero y q = omega arith
child_in (suc h) y q = omega arith

kind_some : (h : ℕ) → 1 ≤ kind h
kind_some zero = omega arith
kind_some (suc h) = omega arith

takes : (h : ℕ) (y : Tree h) (ns : List NodeVal) → ((m : ℕ) → 1 ≤ has m h y → m < length ns) → Stands ns h y → Loose ns h y → Takes h ns (root_no h y)
takes zero y ns w s l = tt
takes (suc h) y ns w s l = (w y.no (omega (arith, one_self y.no)), rw (body_state s.0) (kind_some h), l)

loose_kept : (h : ℕ) (y : Tree h) {ns ns' : List NodeVal} {xs ys : List ℕ} → Kept ns ns' xs ys → ((q : ℕ) → has q h y + times q ys ≤ 1) → Loose ns h y → Loose ns' h y
loose_kept zero y K z l = tt
loose_kept (suc h) y K z l = link_parent (K.roots y.no (omega (arith, z y.no, one_self y.no)) l) ∙ l

-- ---- nothing beside the hole. (Where the climb starts, at a gap, that is a gap too)

pub start : {ns : List NodeVal} {h : ℕ} (c : Ctx h) (x : Tree h) (free : List ℕ) → Hole ns c x free → Aside ns c x 0 tt free
start c x free H = record {
  few = H.few;
  way = H.way;
  low = H.tree;
  high = tt;
  loose = tt;
  chain = H.chain;
  rises = H.rises;
  links = H.links;
  root = H.root;
  once = λ m. omega (arith, H.once m);
  within = λ m u. H.within m (omega arith);
  all = λ m u. omega (arith, H.all m u);
}

-- ---- the node under a hole

module _ {h : ℕ} (f : Frame (Tree h)) (c : Ctx (suc h)) (x y : Tree h) (free : List ℕ) {ns : List NodeVal} (O : Open ns (under f c) x y free) where
  abbrev node : Tree (suc h)
  node = fill f.no f.left x f.right

  abbrev first : ℕ
  first = root_no h node.first

  abbrev rest : List (Item ℕ)
  rest = numbered h node.rest

  pub node_in : f.no < length ns
  node_in = O.within f.no (omega (arith, one_self f.no))

  node_body : body_of (nth ns f.no) ≡ content h first rest
  node_body = O.way.0 ∙ sym (content_fill h f.no f.left x f.right)

  node_long : length rest ≡ length f.left + length f.right
  node_long = length-map node.rest _ ∙ length_fill f.no f.left x f.right

  pub node_pairs : length (nth ns f.no).pairs ≡ length f.left + length f.right
  node_pairs = content_pairs ns O.links f.no first rest node_in h node_body ∙ node_long

  root_known : ((nth ns (root_of c f.no)).parent ≡ none) × (1 ≤ has_ctx (root_of c f.no) (under f c))
  root_known = (link_parent O.root, omega (arith, root_in c f.no))

  high_takes : Takes h ns (root_no h y)
  high_takes = takes h y ns (λ m g. O.within m (omega arith)) O.high O.loose

  -- ---- a pair that fits

  pub fit_ready : is_full f ≡ false → FitsAt h ns f.no (length f.left) (root_no h y)
  fit_ready e = fitting_ready ns O.links O.few f.no first rest node_in (length f.left) (root_no h y) (omega (arith, node_long)) h node_body (omega (arith, node_long, leb-false most (length f.left + length f.right) e)) high_takes

  module _ (p : Pair) where
    abbrev item : Item (Tree h)
    item = record { pair = p; edge = y }

    abbrev pub fitted : Frame (Tree h)
    fitted = record { no = f.no; left = f.left; right = item ∷ f.right }

    abbrev pub after_fit : List NodeVal
    after_fit = fit_at h ns f.no (length f.left) p (root_no h y)

    pub fit_kept : Kept ns after_fit (f.no ∷ []) (new_child h (root_no h y))
    fit_kept = fitting_kept ns O.links O.few f.no first rest node_in (length f.left) (root_no h y) (omega (arith, node_long)) p h node_body high_takes

    fit_body : body_of (nth after_fit f.no) ≡ content_of h (fill f.no (numbered h f.left) (root_no h x) (numbered h fitted.right))
    fit_body =
        fitting_body ns O.links O.few f.no first rest node_in (length f.left) (root_no h y) (omega (arith, node_long)) p h node_body high_takes
        ∙ ap (content h first) (sym (map_insert _ node.rest (length f.left) item) ∙ ap (numbered h) (fill_insert f c x p y free))
        ∙ content_fill h f.no f.left x fitted.right

    pub fit_long : length after_fit ≡ length ns
    fit_long = fit_kept.long

    pub fit_step : Hole after_fit (under fitted c) x free
    fit_step =
        let r = root_known in
        record {
          few = rw fit_kept.long O.few;
          way = (
            fit_body,
            all_kept _ _ _ _ fit_kept h f.left (λ q. omega (arith, O.once q)) O.way.1,
            (stands_kept _ _ _ _ fit_kept h y (λ q. omega (arith, O.once q)) O.high, all_kept _ _ _ _ fit_kept h f.right (λ q. omega (arith, O.once q)) O.way.2),
            way_kept _ _ _ _ fit_kept c f.no (λ q. omega (arith, O.once q)) O.way.3,
          );
          tree = stands_kept _ _ _ _ fit_kept h x (λ q. omega (arith, O.once q)) O.low;
          chain = chain_kept _ _ _ _ fit_kept free (λ q. omega (arith, O.once q)) O.chain;
          rises = O.rises;
          links = fit_kept.links;
          root = fit_kept.roots (root_of c f.no) (omega (arith, O.once (root_of c f.no), child_in h y (root_of c f.no))) r.0 ∙ O.root;
          once = λ m. omega (arith, O.once m);
          within = λ m g. rw fit_kept.long (O.within m (omega arith));
          all = λ m g. omega (arith, O.all m (rw fit_kept.long at g));
        }

-- ---- the first free node

module _ {h : ℕ} (c : Ctx h) (x : Tree h) (j : ℕ) (y : Tree j) (m : ℕ) (free : List ℕ) {ns : List NodeVal} (O : Aside ns c x j y (m ∷ free)) where
  pub free_in : m < length ns
  free_in = O.within m (omega (arith, one_self m))

  pub take_ready : (hd : List ℕ) → first_free hd ≡ m → free_nodes hd ≡ suc (length free) → TakeReady hd ns (m ∷ free)
  take_ready hd e s = record { some = omega arith; frees = open_frees c x j y (m ∷ free) O hd e s }

-- ---- a full node

-- the new item goes into its half: what the two nodes hold then
record Into (ns ns' : List NodeVal) (h n m : ℕ) (new : Item ℕ) (e : ℕ) (r : List (Item ℕ)) (s : Split) : Type 0 where
  keeps : Kept ns ns' (n ∷ m ∷ []) (new_child h new.edge)
  low_is : body_of (nth ns' n) ≡ content h e (into_left s.side s.edge new (take s.place r))
  high_is : body_of (nth ns' m) ≡ content h (edge_of e (drop s.place r)) (into_right s.side s.edge new (tail (drop s.place r)))
  ready : FitsAt h ns (half s.side n m) s.edge new.edge

tail_long : {A : Type 0} (q : List A) → 1 ≤ length q → suc (length (tail q)) ≡ length q
tail_long [] l = absurd (not-suc-le-zero l)
tail_long (x ∷ q) l = refl

module _ (ns : List NodeVal) (L : Links ns) (few : length ns ≤ largest_count) (h n m i : ℕ) (p : Pair) (y e : ℕ) (r : List (Item ℕ)) (s : Split) (on : n < length ns) (om : m < length ns) (d : n ≢ m)
    (place : s.place < length r) (small : i ≤ length r) (most-is : length r ≡ most) (t : Takes h ns y)
    (bn : body_of (nth ns n) ≡ content h e (take s.place r)) (bm : body_of (nth ns m) ≡ content h (edge_of e (drop s.place r)) (tail (drop s.place r))) where
  abbrev new : Item ℕ
  new = record { pair = p; edge = y }

  into : Goes i s → Into ns (fit_at h ns (half s.side n m) s.edge p y) h n m new e r s
  into (low hs he hi hp hq) =
      let l = length-take-le s.place r (omega arith) in
      let k = fitting_kept ns L few n e (take s.place r) on s.edge y (omega arith) p h bn t in
      rw hs (record {
        keeps = kept_more (n ∷ []) (new_child h y) (n ∷ m ∷ []) (new_child h y) (λ q z. omega arith) (λ q z. z) k;
        low_is = fitting_body ns L few n e (take s.place r) on s.edge y (omega arith) p h bn t;
        high_is = k.bodies m (omega (arith, one_other n m d)) ∙ bm;
        ready = fitting_ready ns L few n e (take s.place r) on s.edge y (omega arith) h bn (omega arith) t;
      })
  into (high hs hi hp hq) =
      let v = length-drop s.place r in
      let l = tail_long (drop s.place r) (omega arith) in
      let k = fitting_kept ns L few m (edge_of e (drop s.place r)) (tail (drop s.place r)) om s.edge y (omega arith) p h bm t in
      rw hs (record {
        keeps = kept_more (m ∷ []) (new_child h y) (n ∷ m ∷ []) (new_child h y) (λ q z. omega arith) (λ q z. z) k;
        low_is = k.bodies n (omega (arith, one_other m n (λ z. d (sym z)))) ∙ bn;
        high_is = fitting_body ns L few m (edge_of e (drop s.place r)) (tail (drop s.place r)) om s.edge y (omega arith) p h bm t;
        ready = fitting_ready ns L few m (edge_of e (drop s.place r)) (tail (drop s.place r)) om s.edge y (omega arith) h bm (omega arith) t;
      })

-- the model's lists, numbered
module _ {A : Type 0} (g : A → ℕ) where
  abbrev num : Item A → Item ℕ
  num x = record { pair = x.pair; edge = g x.edge }

  left_numbered : (s : Side) (i : ℕ) (a : Item A) (l : List (Item A)) → map num (into_left s i a l) ≡ into_left s i (num a) (map num l)
  left_numbered left i a l = map_insert num l i a
  left_numbered right i a l = refl

  right_numbered : (s : Side) (i : ℕ) (a : Item A) (l : List (Item A)) → map num (into_right s i a l) ≡ into_right s i (num a) (map num l)
  right_numbered left i a l = refl
  right_numbered right i a l = map_insert num l i a

  edge_numbered : (e : A) (l : List (Item A)) → g (edge_of e l) ≡ edge_of (g e) (map num l)
  edge_numbered e [] = refl
  edge_numbered e (x ∷ l) = refl

  tail_numbered : (l : List (Item A)) → map num (tail l) ≡ tail (map num l)
  tail_numbered [] = refl
  tail_numbered (x ∷ l) = refl

-- it is split, and the new item goes into its half
module _ {h : ℕ} (f : Frame (Tree h)) (c : Ctx (suc h)) (x y : Tree h) (p : Pair) (m : ℕ) (free : List ℕ) {ns : List NodeVal} (O : Open ns (under f c) x y (m ∷ free)) (full : is_full f ≡ true) (small : length f.left + length f.right ≤ most) where
  abbrev t : Tree (suc h)
  t = fill f.no f.left x f.right

  abbrev pub s : Split
  s = splitpoint (length f.left)

  abbrev e : ℕ
  e = root_no h t.first

  abbrev r : List (Item ℕ)
  r = numbered h t.rest

  abbrev it : Item (Tree h)
  it = record { pair = p; edge = y }

  abbrev pub halves : Twin (Tree (suc h))
  halves = halved f c x p y (m ∷ free)

  abbrev pub parted : List NodeVal
  parted = split_nodes ns f.no m s.place

  abbrev pub after_split : List NodeVal
  after_split = fit_at h parted (half s.side f.no m) s.edge p (root_no h y)

  on : f.no < length ns
  on = node_in f c x y (m ∷ free) O

  om : m < length ns
  om = free_in (under f c) x h y m free O

  apart : f.no ≢ m
  apart d = omega (arith, O.once m, one_same f.no m d, one_self m)

  body : body_of (nth ns f.no) ≡ content h e r
  body = node_body f c x y (m ∷ free) O

  long : length r ≡ most
  long = node_long f c x y (m ∷ free) O ∙ omega (arith, leb-true most (length f.left + length f.right) full)

  place_in : s.place < length t.rest
  place_in = fill_full f c x p y (m ∷ free) full

  place : s.place < length r
  place = rw (length-map t.rest) place_in

  K₁ : Kept ns parted (f.no ∷ m ∷ []) (m ∷ [])
  K₁ = split_kept ns O.links O.few f.no m (first_or free) s.place on om apart O.chain.0

  takes₁ : Takes h parted (root_no h y)
  takes₁ =
      takes h y parted (λ q g. rw K₁.long (O.within q (omega arith))) (stands_kept _ _ _ _ K₁ h y (λ q. omega (arith, O.once q)) O.high)
      (loose_kept h y K₁ (λ q. omega (arith, O.once q)) O.loose)

  put : Into parted after_split h f.no m (num (root_no h) it) e r s
  put =
      into parted K₁.links (rw K₁.long O.few) h f.no m (length f.left) p (root_no h y) e r s (rw K₁.long on) (rw K₁.long om) apart place (omega (arith, node_long f c x y (m ∷ free) O)) long takes₁
      (low_body ns O.links O.few f.no e r on m (first_or free) s.place om apart O.chain.0 h body)
      (high_body ns O.links O.few f.no e r on m (first_or free) s.place om apart O.chain.0 h body place)
      (goes (length f.left))

  pub K : Kept ns after_split (f.no ∷ m ∷ []) (m ∷ new_child h (root_no h y))
  K =
      kept_trans (kept_more (f.no ∷ m ∷ []) (m ∷ []) (f.no ∷ m ∷ []) (m ∷ new_child h (root_no h y)) (λ q z. z) (λ q z. omega arith) K₁)
      (kept_more (f.no ∷ m ∷ []) (new_child h (root_no h y)) (f.no ∷ m ∷ []) (m ∷ new_child h (root_no h y)) (λ q z. z) (λ q z. omega arith) put.keeps)

  pub cut_ready : (hd : List ℕ) → first_free hd ≡ m → free_nodes hd ≡ suc (length free) → CutReady hd ns (m ∷ free) f.no s.place × Splits h ns f.no
  cut_ready hd d g = (
    record { take = take_ready (under f c) x h y m free O hd d g; node = on; place = rw (node_pairs f c x y (m ∷ free) O) (omega (arith, place, node_long f c x y (m ∷ free) O)) },
    splitting ns O.links O.few f.no e r on h body,
  )

  pub half_ready : FitsAt h parted (half s.side f.no m) s.edge (root_no h y)
  half_ready = put.ready

  -- the pair that rises
  pub risen : pair_at (nth ns f.no).pairs s.place ≡ halves.pair
  risen = rw (body_parts (nth ns f.no) _ body).1 (go s.place t.rest place_in)
    where
      go : (i : ℕ) (l : List (Item (Tree h))) → i < length l → pair_at (map pair_in (numbered h l)) i ≡ pair_of p (drop i l)
      go i [] o = absurd (not-suc-le-zero o)
      go zero (z ∷ l) o = refl
      go (suc i) (z ∷ l) o = go i l (omega arith)

  low_content : body_of (nth after_split f.no) ≡ content h (root_no h halves.left.first) (numbered h halves.left.rest)
  low_content = put.low_is ∙ ap (content h e) (sym (left_numbered (root_no h) s.side s.edge it (take s.place t.rest) ∙ ap (into_left s.side s.edge (num (root_no h) it)) (map_take _ s.place t.rest)))

  high_content : body_of (nth after_split m) ≡ content h (root_no h halves.right.first) (numbered h halves.right.rest)
  high_content =
      put.high_is
      ∙ ap₂ (content h)
      (sym (edge_numbered (root_no h) t.first (drop s.place t.rest) ∙ ap (edge_of e) (map_drop _ s.place t.rest)))
      (sym (right_numbered (root_no h) s.side s.edge it (tail (drop s.place t.rest)) ∙ ap (into_right s.side s.edge (num (root_no h) it)) (tail_numbered (root_no h) (drop s.place t.rest) ∙ ap tail (map_drop _ s.place t.rest))))

  counted : (q : ℕ) → counts q c (has q (suc h) halves.left + has q (suc h) halves.right) free ≡ counts q (under f c) (has q h x + has q h y) (m ∷ free)
  counted q = omega (arith, halved_has f c x p y (m ∷ free) full q)

  pub split_long : length after_split ≡ length ns
  split_long = K.long

  pub split_step : Open after_split c halves.left halves.right free
  split_step =
      let z = fill_parts (Stands after_split h) f.no f.left x f.right (all_kept _ _ _ _ K h f.left (λ q. omega (arith, O.once q)) O.way.1) (stands_kept _ _ _ _ K h x (λ q. omega (arith, O.once q)) O.low) (all_kept _ _ _ _ K h f.right (λ q. omega (arith, O.once q)) O.way.2) in
      let a = halve_all (length f.left) s it m t (goes (length f.left)) place_in (Stands after_split h) (stands_kept _ _ _ _ K h y (λ q. omega (arith, O.once q)) O.high) z.1 in
      let w = root_known f c x y (m ∷ free) O in
      record {
        few = rw K.long O.few;
        way = way_kept _ _ _ _ K c f.no (λ q. omega (arith, O.once q)) O.way.3;
        low = (low_content, z.0, a.0);
        high = (high_content, a.1, a.2);
        loose =
            let l = split_loose ns O.links O.few f.no m (first_or free) s.place on om apart O.chain.0 in
            link_parent (put.keeps.roots m (omega (arith, O.once m, one_self m, child_in h y m)) (link_parent l) ∙ l);
        chain = chain_kept _ _ _ _ K free (λ q. omega (arith, O.once q)) O.chain.1;
        rises = O.rises.1;
        links = K.links;
        root = K.roots (root_of c f.no) (omega (arith, O.once (root_of c f.no), child_in h y (root_of c f.no), w.1)) w.0 ∙ O.root;
        once = λ q. omega (arith, O.once q, counted q);
        within = λ q g. rw K.long (O.within q (omega (arith, counted q)));
        all = λ q g. omega (arith, O.all q (rw K.long at g), counted q);
      }

-- ---- above the root

module _ {h : ℕ} (x : Tree (suc h)) (j : ℕ) (y : Tree j) (m : ℕ) (free : List ℕ) {ns : List NodeVal} (O : Aside ns (top {h = suc h}) x j y (m ∷ free)) (hd : List ℕ) (er : header.root_of hd ≡ x.no) where
  abbrev pub new_root : Frame (Tree (suc h))
  new_root = record { no = m; left = []; right = [] }

  root_inside : x.no < length ns
  root_inside = O.within x.no (omega (arith, one_self x.no))

  crowns : Crowns ns (header.root_of hd) m (first_or free)
  crowns = record {
    few = O.few;
    inside = free_in (top {h = suc h}) x j y m free O;
    is_free = O.chain.0;
    root = rw er root_inside;
    live = rw (er, body_state O.low.0) (kind_some h);
    loose = rw er (link_parent O.root);
  }

  pub Kp : Kept ns (push_nodes hd (m ∷ free) ns) (m ∷ []) (m ∷ x.no ∷ [])
  Kp = subst (λ (k : ℕ). Kept ns (push_nodes hd (m ∷ free) ns) (m ∷ []) (m ∷ k ∷ [])) er (push_kept ns O.links (header.root_of hd) m (first_or free) crowns)

  pub push_ready : first_free hd ≡ m → free_nodes hd ≡ suc (length free) → header.height_of hd < largest_count → header.PushReady hd ns (m ∷ free)
  push_ready em g u = record { take = take_ready (top {h = suc h}) x j y m free O hd em g; root = rw er root_inside; height = u }

  pub push_long : length (push_nodes hd (m ∷ free) ns) ≡ length ns
  push_long = Kp.long

  pub push_step : Aside (push_nodes hd (m ∷ free) ns) {h = suc h} (under new_root top) x j y free
  push_step = record {
    few = rw Kp.long O.few;
    way = (push_body ns O.links (header.root_of hd) m (first_or free) crowns ∙ ap (λ (k : ℕ). record { state = internal; pairs = []; edges = k ∷ [] }) er, tt, tt, tt);
    low = stands_kept _ _ _ _ Kp (suc h) x (λ q. omega (arith, O.once q)) O.low;
    high = stands_kept _ _ _ _ Kp j y (λ q. omega (arith, O.once q)) O.high;
    loose = loose_kept j y Kp (λ q. omega (arith, O.once q)) O.loose;
    chain = chain_kept _ _ _ _ Kp free (λ q. omega (arith, O.once q)) O.chain.1;
    rises = O.rises.1;
    links = Kp.links;
    root = push_root ns O.links (header.root_of hd) m (first_or free) crowns;
    once = λ q. omega (arith, O.once q);
    within = λ q g. rw Kp.long (O.within q (omega arith));
    all = λ q g. omega (arith, O.all q (rw Kp.long at g));
  }
