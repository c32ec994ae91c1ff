-- A tree that stands in the nodes, seen whole and from any hole; and the words of a state.
-- Assumes nothing.
use mathlib.Core.Path.{◌≡◌, refl, sym, ap, ◌∙◌, subst}
use mathlib.Core.Bool.{Bool, true, false, cond}
use mathlib.Core.List.{List, [], ◌∷◌}
use Prim.Native.Nat.{ℕ, zero, suc, ◌+◌, ◌≤◌, ◌<◌}
use native.Mathlib.Nat.{not-suc-le-zero, le_of_suc-le-suc, add-zero}
use native.Mathlib.Decide.{dec_lt}
use native.Mathlib.Omega.{arith}
use lib.Dec.{ltb}
use lib.ListN.{length, get_or}
use borrow.Author.Tests.{ltb-true, lt-ltb}
use Rattle.model.specs.Lists.{All, one, times}
use Rattle.model.specs.Layout.{none, NodeVal, nth, Arena}
use Rattle.model.specs.Tree.{Item, Tree, Frame, Ctx, top, under, plug, fill, has_in, has}
use Rattle.model.specs.State.{State}
use Rattle.model.specs.Words.{kind, root_no, links, node_val, Block, blocks_of, blocks, chain_blocks, nodes_in, header_of, words_of}
use Rattle.model.specs.Sound.{AllIn, Sound, RootFull}
use Rattle.model.specs.Promise.{Holds}
use Rattle.model.proofs.Lists.{all_append, all_left, all_right}
use Rattle.model.proofs.Plug.{has_fill}
use Rattle.model.proofs.Sizes.{fill_parts, parts_fill}
use Rattle.model.proofs.Held.{Written, Held, Laid, laid_held, laid_node, sound_laid, held_words}
use Rattle.store.specs.Links.{body_of, link_of}
use Rattle.standing.specs.Kept.{Child, Links}
use Rattle.standing.specs.Totals.{Totals}
use Rattle.standing.proofs.Totals.{past, stands_total}
use Rattle.standing.specs.Standing.{Stands, at_root, Hole, Closed}
use Rattle.standing.proofs.Contents.{content_fill, content_is, value_of}

-- ---- in and out of a node

module _ {h : ℕ} (f : Frame (Tree h)) (c : Ctx (suc h)) (t : Tree h) (free : List ℕ) where
  same_has : (m : ℕ) → has m (suc h) (fill f.no f.left t f.right) ≡ one f.no m + (has_in (has m h) f.left + (has m h t + has_in (has m h) f.right))
  same_has m = has_fill (has m h) m f.no f.left t f.right

  pub zoom_out : {ns : List NodeVal} → Hole ns (under f c) t free → Hole ns c (fill f.no f.left t f.right) free
  zoom_out {ns} H =
      let w = H.way in
      let p = fill_parts (Stands ns h) f.no f.left t f.right w.1 H.tree w.2 in
      record {
        few = H.few;
        way = w.3;
        tree = (w.0 ∙ sym (content_fill h f.no f.left t f.right), p.0, p.1);
        chain = H.chain;
        rises = H.rises;
        links = H.links;
        root = H.root;
        once = λ m. omega (arith, H.once m, same_has m);
        within = λ m u. H.within m (omega (arith, same_has m));
        all = λ m u. omega (arith, H.all m u, same_has m);
      }

  pub zoom_in : {ns : List NodeVal} → Hole ns c (fill f.no f.left t f.right) free → Hole ns (under f c) t free
  zoom_in {ns} H =
      let s = H.tree in
      let p = parts_fill (Stands ns h) f.no f.left t f.right s.1 s.2 in
      record {
        few = H.few;
        way = (s.0 ∙ content_fill h f.no f.left t f.right, p.0, p.2, H.way);
        tree = p.1;
        chain = H.chain;
        rises = H.rises;
        links = H.links;
        root = H.root;
        once = λ m. omega (arith, H.once m, same_has m);
        within = λ m u. H.within m (omega (arith, same_has m));
        all = λ m u. omega (arith, H.all m u, same_has m);
      }

pub close : {ns : List NodeVal} {h : ℕ} (c : Ctx h) (t : Tree h) (free : List ℕ) → Hole ns c t free → Closed ns (plug c t) free
close top t free H = H
close (under f c) t free H = close c (fill f.no f.left t f.right) free (zoom_out f c t free H)

pub enter : {ns : List NodeVal} {h : ℕ} (c : Ctx h) (t : Tree h) (free : List ℕ) → Closed ns (plug c t) free → Hole ns c t free
enter top t free H = H
enter (under f c) t free H = zoom_in f c t free (enter c (fill f.no f.left t f.right) free H)

-- ---- blocks and bodies

module _ (ns : List NodeVal) where
  all_items : (h n i : ℕ) → ((i : ℕ) (t : Tree h) → All (Written ns) (blocks h n i t) → Stands ns h t) → (r : List (Item (Tree h))) → All (Written ns) (blocks_of (blocks h n) i r) → AllIn (Stands ns h) r
  all_items h n i f [] a = tt
  all_items h n i f (x ∷ r) a = (f i x.edge (all_left (Written ns) (blocks h n i x.edge) (blocks_of (blocks h n) (suc i) r) a), all_items h n (suc i) f r (all_right (Written ns) (blocks h n i x.edge) (blocks_of (blocks h n) (suc i) r) a))

  -- a tree whose blocks stand, stands
  stands_of : (h p i : ℕ) (t : Tree h) → All (Written ns) (blocks h p i t) → Stands ns h t
  stands_of zero p i t a = tt
  stands_of (suc h) p i t a = (
    ap body_of a.0 ∙ content_is h p i t,
    stands_of h t.no 0 t.first (all_left (Written ns) (blocks h t.no 0 t.first) (blocks_of (blocks h t.no) 1 t.rest) a.1),
    all_items h t.no 1 (λ i t. stands_of h _ i t) t.rest (all_right (Written ns) (blocks h t.no 0 t.first) (blocks_of (blocks h t.no) 1 t.rest) a.1),
  )

  -- the links of a block's edges are right
  abbrev Linked : Block → Type 0
  Linked b = (j : ℕ) → j < length b.val.edges → Child ns b.no j (get_or b.val.edges j 0)

  live_inside : (c : ℕ) → 1 ≤ (nth ns c).state → c < length ns
  live_inside c l = go (dec_lt c (length ns))
    where
      go : Dec (c < length ns) → c < length ns
      go (yes h) = h
      go (no d) = absurd (omega (arith, ap (λ (v : NodeVal). v.state) (past ns c (omega arith))))

  kind_some : (h : ℕ) → 1 ≤ kind h
  kind_some zero = omega arith
  kind_some (suc h) = omega arith

  child_of : (h n i : ℕ) (t : Tree (suc h)) → nth ns t.no ≡ node_val h n i t → Child ns n i t.no
  child_of h n i t e =
      let l : 1 ≤ (nth ns t.no).state = rw e (kind_some h) in
      record { within = live_inside t.no l; live = l; link = ap link_of e }

  kids_of : (h n i : ℕ) (r : List (Item (Tree (suc h)))) → All (Written ns) (blocks_of (blocks (suc h) n) i r) → (j : ℕ) → j < length (links (root_no (suc h)) r) → Child ns n (i + j) (get_or (links (root_no (suc h)) r) j 0)
  kids_of h n i [] a j l = absurd (not-suc-le-zero l)
  kids_of h n i (x ∷ r) a zero l =
      rw add-zero (child_of h n i x.edge (all_left (Written ns) (blocks (suc h) n i x.edge) (blocks_of (blocks (suc h) n) (suc i) r) a).0)
  kids_of h n i (x ∷ r) a (suc j) l =
      subst (λ (k : ℕ). Child ns n k (get_or (links (root_no (suc h)) r) j 0)) (let z : suc i + j ≡ i + suc j = omega arith in z)
      (kids_of h n (suc i) r (all_right (Written ns) (blocks (suc h) n i x.edge) (blocks_of (blocks (suc h) n) (suc i) r) a) j (le_of_suc-le-suc l))

  node_linked : (h p i : ℕ) (t : Tree (suc h)) → All (Written ns) (blocks (suc h) p i t) → Linked (record { no = t.no; val = node_val h p i t })
  node_linked zero p i t a j l = absurd (not-suc-le-zero l)
  node_linked (suc h) p i t a zero l = child_of h t.no 0 t.first (all_left (Written ns) (blocks (suc h) t.no 0 t.first) (blocks_of (blocks (suc h) t.no) 1 t.rest) a.1).0
  node_linked (suc h) p i t a (suc j) l =
      subst (λ (k : ℕ). Child ns t.no k (get_or (links (root_no (suc h)) t.rest) j 0)) (let z : 1 + j ≡ suc j = omega arith in z)
      (kids_of h t.no 1 t.rest (all_right (Written ns) (blocks (suc h) t.no 0 t.first) (blocks_of (blocks (suc h) t.no) 1 t.rest) a.1) j (le_of_suc-le-suc l))

  linked_items : (h n i : ℕ) → ((i : ℕ) (t : Tree h) → All (Written ns) (blocks h n i t) → All Linked (blocks h n i t)) → (r : List (Item (Tree h))) → All (Written ns) (blocks_of (blocks h n) i r) → All Linked (blocks_of (blocks h n) i r)
  linked_items h n i f [] a = tt
  linked_items h n i f (x ∷ r) a =
      all_append Linked (blocks h n i x.edge) (blocks_of (blocks h n) (suc i) r) (f i x.edge (all_left (Written ns) (blocks h n i x.edge) (blocks_of (blocks h n) (suc i) r) a))
      (linked_items h n (suc i) f r (all_right (Written ns) (blocks h n i x.edge) (blocks_of (blocks h n) (suc i) r) a))

  all_linked : (h p i : ℕ) (t : Tree h) → All (Written ns) (blocks h p i t) → All Linked (blocks h p i t)
  all_linked zero p i t a = tt
  all_linked (suc h) p i t a = (
    node_linked h p i t a,
    all_append Linked (blocks h t.no 0 t.first) (blocks_of (blocks h t.no) 1 t.rest)
        (all_linked h t.no 0 t.first (all_left (Written ns) (blocks h t.no 0 t.first) (blocks_of (blocks h t.no) 1 t.rest) a.1))
        (linked_items h t.no 1 (λ i t. all_linked h _ i t) t.rest (all_right (Written ns) (blocks h t.no 0 t.first) (blocks_of (blocks h t.no) 1 t.rest) a.1)),
  )

  chain_linked : (free : List ℕ) → All Linked (chain_blocks free)
  chain_linked [] = tt
  chain_linked (n ∷ free) = ((λ j l. absurd (not-suc-le-zero l)), chain_linked free)

-- ---- the words of a state

module _ {s : State} (o : Laid s) where
  abbrev held : Held (words_of s) (header_of s) (nodes_in s) s
  held = laid_held o

  state_links : Links (nodes_in s)
  state_links q j l = go (dec_lt q s.size)
    where
      go : Dec (q < s.size) → Child (nodes_in s) q j (get_or (nth (nodes_in s) q).edges j 0)
      go (yes h) =
          laid_node o (λ n v. (j : ℕ) → j < length v.edges → Child (nodes_in s) n j (get_or v.edges j 0))
          (all_append (Linked (nodes_in s)) (blocks s.whole.height none 0 s.whole.root) (chain_blocks s.free)
          (all_linked (nodes_in s) s.whole.height none 0 s.whole.root (all_left (Written (nodes_in s)) (blocks s.whole.height none 0 s.whole.root) (chain_blocks s.free) held.nodes)) (chain_linked (nodes_in s) s.free)) q h j l
      go (no d) = absurd (omega (arith, ap (λ (v : NodeVal). length v.edges) (past (nodes_in s) q (omega (arith, held.many)))))

  -- the state's tree stands in its nodes
  pub laid_closed : Closed (nodes_in s) s.whole s.free
  laid_closed =
      let a = held.nodes in
      let t = all_left (Written (nodes_in s)) (blocks s.whole.height none 0 s.whole.root) (chain_blocks s.free) a in
      record {
        few = omega (arith, held.many, o.few);
        way = tt;
        tree = stands_of (nodes_in s) s.whole.height none 0 s.whole.root t;
        chain = all_right (Written (nodes_in s)) (blocks s.whole.height none 0 s.whole.root) (chain_blocks s.free) a;
        rises = o.chain_rises;
        links = state_links;
        root = root s.whole.height s.whole.root o.tall t;
        once = λ m. once m;
        within = λ m u. inside m u;
        all = λ m u. every m u;
      }
    where
      root : (h : ℕ) (t : Tree h) → 1 ≤ h → All (Written (nodes_in s)) (blocks h none 0 t) → link_of (nth (nodes_in s) (root_no h t)) ≡ at_root
      root zero t l a = absurd (omega arith)
      root (suc h) t l a = ap link_of a.0

      few_cond : (b : Bool) → cond b 1 0 ≤ 1
      few_cond true = omega arith
      few_cond false = omega arith

      once : (m : ℕ) → 0 + has m s.whole.height s.whole.root + times m s.free ≤ 1
      once m = omega (arith, o.once m, few_cond (ltb m s.size))

      some_cond : (m : ℕ) (b : Bool) → ltb m s.size ≡ b → 1 ≤ cond b 1 0 → m < s.size
      some_cond m true e u = ltb-true m s.size e
      some_cond m false e u = absurd (omega arith)

      inside : (m : ℕ) → 1 ≤ 0 + has m s.whole.height s.whole.root + times m s.free → m < length (nodes_in s)
      inside m u = rw held.many (some_cond m (ltb m s.size) refl (omega (arith, o.once m)))

      every : (m : ℕ) → m < length (nodes_in s) → 1 ≤ 0 + has m s.whole.height s.whole.root + times m s.free
      every m u = omega (arith, o.once m, ap {B = ℕ} (λ (b : Bool). cond b 1 0) (lt-ltb m s.size (omega (arith, held.many))))

pub closed_of : {w : List ℕ} {s : State} → Holds w s → Closed (nodes_in s) s.whole s.free
closed_of o = laid_closed (sound_laid o.sound)

-- ---- and back

module _ (ns : List NodeVal) (L : Links ns) (T : Totals ns) where
  -- the items of a node n hang from the place i on
  items_written : (h n i : ℕ) → ((i : ℕ) (t : Tree (suc h)) → Stands ns (suc h) t → link_of (nth ns t.no) ≡ record { parent = n; place = i } → All (Written ns) (blocks (suc h) n i t))
      → (r : List (Item (Tree (suc h)))) → AllIn (Stands ns (suc h)) r → ((j : ℕ) → j < length (links (root_no (suc h)) r) → Child ns n (i + j) (get_or (links (root_no (suc h)) r) j 0)) → All (Written ns) (blocks_of (blocks (suc h) n) i r)
  items_written h n i f [] a k = tt
  items_written h n i f (x ∷ r) a k =
      all_append (Written ns) (blocks (suc h) n i x.edge) (blocks_of (blocks (suc h) n) (suc i) r)
      (f i x.edge a.0 (rw add-zero at (k 0 (omega arith)).link))
      (items_written h n (suc i) f r a.1 (λ j l. subst (λ (p : ℕ). Child ns n p (get_or (links (root_no (suc h)) r) j 0)) (let z : i + suc j ≡ suc i + j = omega arith in z) (k (suc j) (omega arith))))

  pub written_of : (h p i : ℕ) (t : Tree (suc h)) → Stands ns (suc h) t → link_of (nth ns t.no) ≡ record { parent = p; place = i } → All (Written ns) (blocks (suc h) p i t)
  written_of zero p i t s e = (value_of (nth ns t.no) (node_val 0 p i t) (s.0 ∙ sym (content_is 0 p i t)) e (stands_total ns T 0 t s), gaps t.no 1 t.rest)
    where
      gaps : (n i : ℕ) (r : List (Item (Tree 0))) → All (Written ns) (blocks_of (blocks 0 n) i r)
      gaps n i [] = tt
      gaps n i (x ∷ r) = gaps n (suc i) r
  written_of (suc h) p i t s e =
      let v = value_of (nth ns t.no) (node_val (suc h) p i t) (s.0 ∙ sym (content_is (suc h) p i t)) e (stands_total ns T (suc h) t s) in
      let k : (j : ℕ) → j < length (t.first.no ∷ links (root_no (suc h)) t.rest) → Child ns t.no j (get_or (t.first.no ∷ links (root_no (suc h)) t.rest) j 0) = λ j l. rw v at (L t.no j (rw v l)) in (
        v,
        all_append (Written ns) (blocks (suc h) t.no 0 t.first) (blocks_of (blocks (suc h) t.no) 1 t.rest) (written_of h t.no 0 t.first s.1 (k 0 (omega arith)).link)
            (items_written h t.no 1 (λ i t s e. written_of h _ i t s e) t.rest s.2 (λ j l. subst (λ (q : ℕ). Child ns t.no q (get_or (links (root_no (suc h)) t.rest) j 0)) (let z : suc j ≡ 1 + j = omega arith in z) (k (suc j) (omega arith)))),
      )

-- nodes in which the tree of a sound state stands, with its header, are its words
pub closed_words : {w k : List ℕ} {ns : List NodeVal} (s : State) → Sound s → Arena w k ns → k ≡ header_of s → length ns ≡ s.size → Closed ns s.whole s.free → Totals ns → w ≡ words_of s
closed_words {ns = ns} s o a e n c T = held_words o (record { arena = a; head = e; many = n; nodes = all_append (Written ns) (blocks s.whole.height none 0 s.whole.root) (chain_blocks s.free) (tree s.whole.height s.whole.root o.full c.tree c.root) c.chain })
  where
    tree : (h : ℕ) (t : Tree h) → RootFull h t → Stands ns h t → link_of (nth ns (root_no h t)) ≡ at_root → All (Written ns) (blocks h none 0 t)
    tree zero t f s r = absurd f
    tree (suc h) t f s r = written_of ns c.links T h none 0 t s r
