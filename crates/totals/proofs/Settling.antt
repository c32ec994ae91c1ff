-- A count set right, and the step to the node above.
-- Assumes nothing.
use Prim.Native.Nat.{ℕ, zero, suc, ◌+◌, ◌-◌, ◌*◌, ◌≤◌, ◌<◌}
use native.Mathlib.Decide.{ℕ_discrete, dec_lt}
use native.Mathlib.Nat.{zero-add}
use native.Mathlib.Omega.{arith}
use mathlib.Core.Path.{◌≡◌, refl, sym, ap, ap₂, ◌∙◌, subst}
use mathlib.Core.List.{List, [], ◌∷◌, map}
use lib.ListN.{length, get_or, length-append, length-map, length-set}
use lib.Seq.{get_or-set_same, get_or-set_other, set_out}
use Rattle.std.specs.Prelude.{Some, None}
use Rattle.model.specs.Lists.{times, one}
use Rattle.model.specs.Layout.{none, most, largest_count, header, height_word, word_at, parent_word, place_word, total_word, NodeVal, nth, blank, Arena}
use Rattle.model.specs.Tree.{Item, Tree, Frame, Ctx, top, under, fill, fill_first, fill_rest, flat, flats, has_in, has}
use Rattle.model.specs.Words.{root_no, kind}
use Rattle.model.specs.Sound.{AllIn}
use Rattle.model.proofs.Lists.{one_same, one_other}
use Rattle.model.proofs.Plug.{length_fill, has_fill}
use Rattle.model.proofs.Sizes.{fill_parts}
use Rattle.store.specs.Links.{Body, body_of, link_of}
use Rattle.standing.specs.Kept.{Links, Kept, Child}
use Rattle.standing.specs.Standing.{numbered, Stands, Hole, root_of}
use Rattle.standing.specs.Heads.{top_of}
use Rattle.standing.specs.Totals.{totals, due, TotalsBut, Totals, with_total, put_total, recount}
use Rattle.standing.proofs.Totals.{past, put_body, put_other, recount_up, recount_parent, not_parent, put_due, put_same}
use Rattle.standing.proofs.Leads.{one_self, link_parent, link_place, times_at, leads_node, links_edged}
use Rattle.standing.proofs.Relinks.{body_edges}
use Rattle.standing.proofs.Frames.{stands_kept, way_kept, chain_kept}
use Rattle.standing.proofs.Changes.{kept_trans}
use Rattle.standing.proofs.Contents.{content_fill}
use Rattle.node.specs.declared.NodeNo.{NodeNo}
use Rattle.node.specs.declared.Place.{Place}
use Rattle.node.specs.Reading.{Within, ascent_of}
use Rattle.node.proofs.Reading.{same_node, within, parent_is, place_is, total_is, ascent_root, ascent_edge}
use lib.Dec.{lit<}
use Rattle.store.proofs.Chain.{head_is}
use Rattle.balance.specs.Moves.{Shaped}
use Rattle.shrinking.proofs.Steps.{shaped}
use Rattle.totals.specs.Settling.{above, ample, Part, Lone, Lifts, Settles, Settled, Settling}

-- ---- counts of a tree none of whose nodes is one of xs

module _ (ns : List NodeVal) (xs : List ℕ) (T : TotalsBut xs ns) where
  gaps_many : (r : List (Item (Tree 0))) → length (map (λ (x : Item ℕ). x.pair) (numbered 0 r)) ≡ length (flats (flat 0) r)
  gaps_many [] = refl
  gaps_many (x ∷ r) = ap suc (gaps_many r)

  items_many : (h : ℕ) → ((t : Tree (suc h)) → ((q : ℕ) → has q (suc h) t + times q xs ≤ 1) → Stands ns (suc h) t → (nth ns t.no).total ≡ length (flat (suc h) t)) → (r : List (Item (Tree (suc h)))) → ((q : ℕ) → has_in (has q (suc h)) r + times q xs ≤ 1)
      → AllIn (Stands ns (suc h)) r → length (map (λ (x : Item ℕ). x.pair) (numbered (suc h) r)) + totals ns (map (λ (x : Item ℕ). x.edge) (numbered (suc h) r)) ≡ length (flats (flat (suc h)) r)
  items_many h f [] z a = refl
  items_many h f (x ∷ r) z a =
      omega (arith, f x.edge (λ q. omega (arith, z q)) a.0, items_many h f r (λ q. omega (arith, z q)) a.1, length-append (flat (suc h) x.edge) (flats (flat (suc h)) r))

  due_of : (b : Body) (q : ℕ) → body_of (nth ns q) ≡ b → due ns q ≡ length b.pairs + totals ns b.edges
  due_of b q e = ap (λ (x : Body). length x.pairs + totals ns x.edges) e

  -- what the count should be, where those just below are right
  pub due_flat : (h : ℕ) (t : Tree (suc h)) → ((q : ℕ) → has q h t.first + has_in (has q h) t.rest + times q xs ≤ 1) → Stands ns (suc h) t → due ns t.no ≡ length (flat (suc h) t)
  due_flat zero t z s = due_of _ t.no s.0 ∙ omega (arith, gaps_many t.rest)
  due_flat (suc h) t z s =
      let k : (u : Tree (suc h)) → ((q : ℕ) → has q (suc h) u + times q xs ≤ 1) → Stands ns (suc h) u → (nth ns u.no).total ≡ length (flat (suc h) u) = λ u y v. T u.no (omega (arith, y u.no, one_self u.no)) ∙ due_flat h u (λ q. omega (arith, y q)) v in
      due_of _ t.no s.0
      ∙ omega (arith, k t.first (λ q. omega (arith, z q)) s.1, items_many h k t.rest (λ q. omega (arith, z q)) s.2, length-append (flat (suc h) t.first) (flats (flat (suc h)) t.rest))

-- ---- no tree has too many pairs: each of its nodes is another one, and holds no more than 11

abbrev sum_to : (ℕ → ℕ) → ℕ → ℕ
sum_to f zero = 0
sum_to f (suc n) = sum_to f n + f n

sum_most : (f : ℕ → ℕ) → ((m : ℕ) → f m ≤ 1) → (n : ℕ) → sum_to f n ≤ n
sum_most f z zero = omega arith
sum_most f z (suc n) = omega (arith, sum_most f z n, z n)

sum_add : (f g k : ℕ → ℕ) → ((m : ℕ) → k m ≡ f m + g m) → (n : ℕ) → sum_to k n ≡ sum_to f n + sum_to g n
sum_add f g k e zero = refl
sum_add f g k e (suc n) = omega (arith, sum_add f g k e n, e n)

lt_of : (h k : ℕ) → h ≤ k → (h ≡ k → ⊥) → h < k
lt_of h k l d = go (dec_lt h k)
  where
    go : Dec (h < k) → h < k
    go (yes z) = z
    go (no z) = absurd (d (omega arith))

sum_one : (x n : ℕ) → x < n → 1 ≤ sum_to (one x) n
sum_one x zero l = absurd (omega arith)
sum_one x (suc n) l = go (ℕ_discrete x n) (sum_one x n)
  where
    go : Dec (x ≡ n) → (x < n → 1 ≤ sum_to (one x) n) → 1 ≤ sum_to (one x) (suc n)
    go (yes e) f = omega (arith, one_same x n e)
    go (no d) f = omega (arith, f (lt_of x n (omega arith) d))

module _ (ns : List NodeVal) (small : (q : ℕ) → length (nth ns q).pairs ≤ most) where
  abbrev many : ℕ
  many = length ns

  items_few : (h : ℕ) → ((t : Tree h) → Stands ns h t → ((m : ℕ) → 1 ≤ has m h t → m < many) → length (flat h t) ≤ most * sum_to (λ m. has m h t) many) → (r : List (Item (Tree h))) → AllIn (Stands ns h) r → ((m : ℕ) → 1 ≤ has_in (has m h) r → m < many)
      → length (flats (flat h) r) ≤ length r + most * sum_to (λ m. has_in (has m h) r) many
  items_few h f [] a z = omega arith
  items_few h f (x ∷ r) a z =
      omega (
        arith,
        f x.edge a.0 (λ m u. z m (omega arith)),
        items_few h f r a.1 (λ m u. z m (omega arith)),
        length-append (flat h x.edge) (flats (flat h) r),
        sum_add (λ m. has m h x.edge) (λ m. has_in (has m h) r) (λ m. has_in (has m h) (x ∷ r)) (λ m. refl) many,
      )

  flat_many : (h : ℕ) (t : Tree h) → Stands ns h t → ((m : ℕ) → 1 ≤ has m h t → m < many) → length (flat h t) ≤ most * sum_to (λ m. has m h t) many
  flat_many zero t s z = omega arith
  flat_many (suc h) t s z =
      let n : length (nth ns t.no).pairs ≡ length t.rest = ap (λ (b : Body). length b.pairs) s.0 ∙ length-map (numbered h t.rest) (λ (x : Item ℕ). x.pair) ∙ length-map {B = Item ℕ} t.rest (λ (x : Item (Tree h)). record { pair = x.pair; edge = root_no h x.edge }) in
      let f : ℕ → ℕ = λ m. has m h t.first in
      let g : ℕ → ℕ = λ m. has_in (has m h) t.rest in
      omega (
        arith,
        n,
        small t.no,
        sum_one t.no many (z t.no (omega (arith, one_self t.no))),
        flat_many h t.first s.1 (λ m u. z m (omega arith)),
        items_few h (flat_many h) t.rest s.2 (λ m u. z m (omega arith)),
        length-append (flat h t.first) (flats (flat h) t.rest),
        sum_add f g (λ m. f m + g m) (λ m. refl) many,
        sum_add (one t.no) (λ m. f m + g m) (λ m. has m (suc h) t) (λ m. refl) many,
      )

  pub flat_few : length ns ≤ largest_count → (h : ℕ) (t : Tree h) → Stands ns h t → ((m : ℕ) → has m h t ≤ 1) → ((m : ℕ) → 1 ≤ has m h t → m < length ns) → length (flat h t) ≤ ample
  flat_few few h t s o z = omega (arith, flat_many h t s z, sum_most (λ m. has m h t) o many)

-- ---- a count put keeps everything else

pub put_kept : (ns : List NodeVal) → Links ns → (n x : ℕ) → 1 ≤ (nth ns n).state → Kept ns (put_total ns n x) [] []
put_kept ns L n x live = record {
  long = length-set ns n (with_total (nth ns n) x);
  bodies = λ q u. put_body ns n x q;
  frees = λ q u z. get_or-set_other ns n q (with_total (nth ns n) x) blank (λ e. omega (arith, ap (λ (p : ℕ). (nth ns p).state) e));
  roots = λ q u z. link q;
  links = λ q i l.
      let b = put_body ns n x q in
      let es : (nth (put_total ns n x) q).edges ≡ (nth ns q).edges = ap (λ (b : Body). b.edges) b in
      let c = L q i (subst (λ (e : List ℕ). i < length e) es l) in
      let at : get_or (nth (put_total ns n x) q).edges i 0 ≡ get_or (nth ns q).edges i 0 = ap (λ (e : List ℕ). get_or e i 0) es in
      subst (Child (put_total ns n x) q i) (sym at) (record {
        within = subst (λ (k : ℕ). get_or (nth ns q).edges i 0 < k) (sym (length-set ns n (with_total (nth ns n) x))) c.within;
        live = subst (λ (k : ℕ). 1 ≤ k) (sym (ap (λ (b : Body). b.state) (put_body ns n x (get_or (nth ns q).edges i 0)))) c.live;
        link = link (get_or (nth ns q).edges i 0) ∙ c.link;
      });
}
  where
    link : (q : ℕ) → link_of (nth (put_total ns n x) q) ≡ link_of (nth ns q)
    link q = go (ℕ_discrete q n) (dec_lt n (length ns))
      where
        go : Dec (q ≡ n) → Dec (n < length ns) → link_of (nth (put_total ns n x) q) ≡ link_of (nth ns q)
        go (yes e) (yes h) = rw e (ap link_of (get_or-set_same ns n (with_total (nth ns n) x) blank h))
        go (yes e) (no d) = rw (set_out ns n (with_total (nth ns n) x) (omega arith)) refl
        go (no d) h = ap link_of (get_or-set_other ns n q (with_total (nth ns n) x) blank d)

-- ---- a part of it

pub hole_part : {ns : List NodeVal} {h : ℕ} (c : Ctx h) (t : Tree h) (free : List ℕ) → Hole ns c t free → Part ns c t free
hole_part c t free H = record { few = H.few; way = H.way; tree = H.tree; links = H.links; root = H.root; once = H.once; within = H.within }

pub part_kept : {ns ns' : List NodeVal} {h : ℕ} (c : Ctx h) (t : Tree h) (free : List ℕ) → Kept ns ns' [] [] → Part ns c t free → Part ns' c t free
part_kept {ns} {ns'} {h} c t free K H = record {
  few = subst (λ (k : ℕ). k ≤ largest_count) (sym K.long) H.few;
  way = way_kept ns ns' [] [] K c (root_no h t) (λ q. omega (arith, H.once q)) H.way;
  tree = stands_kept ns ns' [] [] K h t (λ q. omega (arith, H.once q)) H.tree;
  links = K.links;
  root = K.roots (root_of c (root_no h t)) refl (link_parent H.root) ∙ H.root;
  once = H.once;
  within = λ m u. subst (λ (k : ℕ). m < k) (sym K.long) (H.within m u);
}

pub part_out : {ns : List NodeVal} {h : ℕ} (f : Frame (Tree h)) (c : Ctx (suc h)) (t : Tree h) (free : List ℕ) → Part ns (under f c) t free → Part ns c (fill f.no f.left t f.right) free
part_out {ns} {h} f c t free H =
    let w = H.way in
    let p = fill_parts (Stands ns h) f.no f.left t f.right w.1 H.tree w.2 in
    record {
      few = H.few;
      way = w.3;
      tree = (w.0 ∙ sym (content_fill h f.no f.left t f.right), p.0, p.1);
      links = H.links;
      root = H.root;
      once = λ m. omega (arith, H.once m, has_fill (has m h) m f.no f.left t f.right);
      within = λ m u. H.within m (omega (arith, has_fill (has m h) m f.no f.left t f.right));
    }

pub hole_kept : {ns ns' : List NodeVal} {h : ℕ} (c : Ctx h) (t : Tree h) (free : List ℕ) → Kept ns ns' [] [] → Hole ns c t free → Hole ns' c t free
hole_kept {ns} {ns'} c t free K H =
    let P = part_kept c t free K (hole_part c t free H) in
    record {
      few = P.few;
      way = P.way;
      tree = P.tree;
      chain = chain_kept ns ns' [] [] K free (λ q. omega (arith, H.once q)) H.chain;
      rises = H.rises;
      links = P.links;
      root = P.root;
      once = H.once;
      within = P.within;
      all = λ m u. H.all m (subst (λ (k : ℕ). m < k) K.long u);
    }

-- ---- where the node of a tree hangs

this_edge : (l : List (Item ℕ)) (x : ℕ) (r : List (Item ℕ)) (j : ℕ) → get_or (fill_first l x ∷ map (λ (z : Item ℕ). z.edge) (fill_rest l x r)) (length l + j) 0 ≡ get_or (x ∷ map (λ (z : Item ℕ). z.edge) r) j 0
this_edge [] x r j = rw zero-add refl
this_edge (z ∷ l) x r j =
    ap (λ (k : ℕ). get_or (fill_first l z.edge ∷ map (λ (z : Item ℕ). z.edge) (fill_rest l z.edge (record { pair = z.pair; edge = x } ∷ r))) k 0) (let e : suc (length l) + j ≡ length l + suc j = omega arith in e)
    ∙ this_edge l z.edge (record { pair = z.pair; edge = x } ∷ r) (suc j)

module _ {ns : List NodeVal} {h : ℕ} (f : Frame (Tree (suc h))) (c : Ctx (suc (suc h))) (t : Tree (suc h)) (free : List ℕ) (H : Part ns (under f c) t free) where
  hung : (length f.left < length (nth ns f.no).edges) × (get_or (nth ns f.no).edges (length f.left) 0 ≡ t.no)
  hung =
      let es = body_edges H.way.0 in
      let n : length (numbered (suc h) f.left) + 0 ≡ length f.left = omega (arith, length-map {B = Item ℕ} f.left (λ (z : Item (Tree (suc h))). record { pair = z.pair; edge = z.edge.no })) in
      let u : get_or (nth ns f.no).edges (length f.left) 0 ≡ t.no = rw (es, ← n) (this_edge (numbered (suc h) f.left) t.no (numbered (suc h) f.right) 0) in
      let l : length f.left < length (nth ns f.no).edges = rw es (simp length-map (omega (arith, n, length_fill f.no (numbered (suc h) f.left) t.no (numbered (suc h) f.right)))) in
      (l, u)

  pub hangs : Child ns f.no (length f.left) t.no
  hangs = rw hung.1 at (H.links f.no (length f.left) hung.0)

  pub hangs_once : times t.no (nth ns f.no).edges ≡ 1
  hangs_once =
      let a = subst (λ (k : ℕ). 1 ≤ times k (nth ns f.no).edges) hung.1 (times_at (nth ns f.no).edges (length f.left) hung.0) in
      omega (arith, a, leads_node t.no ns f.no, (links_edged ns H.links).once t.no)

-- ---- one count set right

kind_live : (h : ℕ) → 1 ≤ kind h
kind_live zero = omega arith
kind_live (suc h) = omega arith

pub top_above : {h : ℕ} (c : Ctx h) → top_of c ≡ above c + h
top_above top = omega arith
top_above (under f c) = top_above c ∙ omega arith

module _ {ns : List NodeVal} {h : ℕ} (c : Ctx (suc h)) (t : Tree (suc h)) (free : List ℕ) (H : Part ns c t free) where
  pub root_inside : t.no < length ns
  root_inside = H.within t.no (omega (arith, one_self t.no))

  root_live : 1 ≤ (nth ns t.no).state
  root_live = subst (λ (k : ℕ). 1 ≤ k) (sym (ap (λ (b : Body). b.state) H.tree.0)) (kind_live h)

  pub due_here : TotalsBut (t.no ∷ []) ns → due ns t.no ≡ length (flat (suc h) t)
  due_here T = due_flat ns (t.no ∷ []) T h t (λ q. omega (arith, H.once q)) H.tree

  pub right_kept : Kept ns (recount ns t.no) [] []
  right_kept = put_kept ns H.links t.no (due ns t.no) root_live

  pub right_part : Part (recount ns t.no) c t free
  right_part = part_kept c t free right_kept H

-- the same of a whole hole
pub right_hole : {ns : List NodeVal} {h : ℕ} (c : Ctx (suc h)) (t : Tree (suc h)) (free : List ℕ) → Hole ns c t free → Hole (recount ns t.no) c t free
right_hole c t free H = hole_kept c t free (right_kept c t free (hole_part c t free H)) H

-- ---- at the root

pub settle_root : {ns : List NodeVal} {h : ℕ} (t : Tree (suc h)) (free : List ℕ) → Part ns (top {h = suc h}) t free → TotalsBut (t.no ∷ []) ns → Totals (recount ns t.no)
settle_root {ns} t free H T p u = go (ℕ_discrete p t.no)
  where
    q : ℕ
    q = t.no

    by : Dec (p ≡ none) → times t.no (nth ns p).edges ≡ 0
    by (yes z) = ap (λ (v : NodeVal). times t.no v.edges) (past ns p (omega (arith, H.few)))
    by (no d) = not_parent ns H.links p t.no (λ z. d (sym z ∙ link_parent H.root))

    alone : times t.no (nth ns p).edges ≡ 0
    alone = by (ℕ_discrete p none)

    go : Dec (p ≡ t.no) → (nth (recount ns t.no) p).total ≡ due (recount ns t.no) p
    go (yes e) = ap (λ (c : ℕ). (nth (recount ns t.no) c).total) e ∙ put_same ns t.no (due ns t.no) (root_inside top t free H) ∙ ap (due ns) (sym e) ∙ sym (put_due ns t.no (due ns t.no) p alone)
    go (no d) = put_other ns t.no (due ns t.no) p d ∙ T p (omega (arith, one_other t.no p (λ e. d (sym e)))) ∙ sym (put_due ns t.no (due ns t.no) p alone)

-- ---- below a node: then that node is off as much

module _ {ns : List NodeVal} {h : ℕ} (f : Frame (Tree (suc h))) (c : Ctx (suc (suc h))) (t : Tree (suc h)) (free : List ℕ) (H : Part ns (under f c) t free) (T : TotalsBut (t.no ∷ []) ns) where
  abbrev up : Tree (suc (suc h))
  up = fill f.no f.left t f.right

  pub up_part : Part (recount ns t.no) c up free
  up_part = part_out f c t free (right_part (under f c) t free H)

  apart : f.no ≡ t.no → ⊥
  apart e = omega (arith, H.once t.no, one_self t.no, one_same f.no t.no e)

  pub up_told : TotalsBut (f.no ∷ []) (recount ns t.no)
  up_told = subst (λ (m : ℕ). TotalsBut (m ∷ []) (recount ns t.no)) (link_parent (hangs f c t free H).link) (recount_up ns H.links t.no [] (root_inside (under f c) t free H) T)

  pub up_off : (was now : ℕ) → (nth ns t.no).total + now ≡ length (flat (suc h) t) + was → (nth (recount ns t.no) f.no).total + now ≡ length (flat (suc (suc h)) up) + was
  up_off was now o =
      omega (
        arith,
        o,
        put_other ns t.no (due ns t.no) f.no apart,
        T f.no (omega (arith, one_other t.no f.no (λ z. apart (sym z)))),
        recount_parent ns f.no t.no (root_inside (under f c) t free H) (hangs_once f c t free H),
        due_here (under f c) t free H T,
        due_here c up free up_part up_told,
      )

-- ---- in words

abbrev pub ChangeCall : List ℕ → List ℕ → ℕ → ℕ → ℕ → Type 0
ChangeCall w w' n was now = (h : List ℕ) (ns : List NodeVal) → n < length ns → Arena w h ns → Arena w' h (put_total ns n ((nth ns n).total + now - was))

pub arena_small : {w hd : List ℕ} (ns : List NodeVal) → Arena w hd ns → (q : ℕ) → length (nth ns q).pairs ≤ most
arena_small ns a q = go (dec_lt q (length ns))
  where
    go : Dec (q < length ns) → length (nth ns q).pairs ≤ most
    go (yes l) = (a.small q l).pairs_fit
    go (no d) = rw (past ns q (omega arith)) (omega arith)

pub part_few : {w hd : List ℕ} {ns : List NodeVal} {h : ℕ} (c : Ctx h) (t : Tree h) (free : List ℕ) → Arena w hd ns → Part ns c t free → length (flat h t) ≤ ample
part_few {ns = ns} {h = h} c t free a P = flat_few ns (arena_small ns a) P.few h t P.tree (λ m. omega (arith, P.once m)) (λ m u. P.within m (omega arith))

pub lone_few : {w hd : List ℕ} (ns : List NodeVal) (n levels : ℕ) → Arena w hd ns → (K : Lone ns n levels) → length (flat (suc K.height) K.tree) ≤ ample
lone_few ns n levels a K = part_few K.way K.tree K.free a K.stand

pub lone_inside : (ns : List NodeVal) (n levels : ℕ) → Lone ns n levels → n < length ns
lone_inside ns n levels K = subst (λ (k : ℕ). k < length ns) K.node_is (root_inside K.way K.tree K.free K.stand)

pub lone_due : (ns : List NodeVal) (n levels : ℕ) (K : Lone ns n levels) → due ns n ≡ length (flat (suc K.height) K.tree)
lone_due ns n levels K = ap (due ns) (sym K.node_is) ∙ due_here K.way K.tree K.free K.stand (subst (λ (k : ℕ). TotalsBut (k ∷ []) ns) (sym K.node_is) K.told)

pub lone_shaped : (ns : List NodeVal) (n levels : ℕ) → Lone ns n levels → Shaped ns n
lone_shaped ns n levels K =
    subst (Shaped ns) K.node_is (shaped ns K.stand.links K.tree.no (root_no K.height K.tree.first) (numbered K.height K.tree.rest) (root_inside K.way K.tree K.free K.stand) K.height K.stand.tree.0)

module _ {w hd : List ℕ} {ns : List NodeVal} {n levels was now : ℕ} (S : Settling w hd ns n levels was now) where
  abbrev ms : List NodeVal
  ms = S.nodes

  abbrev K : Lone S.nodes n levels
  K = S.lifts.lone

  inside : n < length S.nodes
  inside = lone_inside S.nodes n levels K

  pub lift_within : Within w n
  lift_within = within S.arena n inside

  pub lift_room : (word_at w n total_word + now < 18446744073709551616) × (was ≤ word_at w n total_word + now)
  lift_room =
      let e = total_is S.arena n inside in
      let f = lone_few S.nodes n levels S.arena K in
      let o = S.lifts.off in
      let l = S.lifts.low in
      (omega (arith, e, f, o, l), omega (arith, e, o))

  module _ (w' : List ℕ) (call : ChangeCall w w' n was now) where
    pub lift_arena : Arena w' hd (recount S.nodes n)
    lift_arena =
        let e : (nth S.nodes n).total + now - was ≡ due S.nodes n = omega (arith, S.lifts.off, lone_due S.nodes n levels K) in
        subst (λ (x : ℕ). Arena w' hd (put_total S.nodes n x)) e (call hd S.nodes inside S.arena)

    after_inside : n < length (recount S.nodes n)
    after_inside = subst (λ (k : ℕ). n < k) (sym (length-set S.nodes n (with_total (nth S.nodes n) (due S.nodes n)))) inside

    pub lift_after : Within w' n
    lift_after = within lift_arena n after_inside

    links_are : ascent_of (word_at w' n parent_word) (word_at w' n place_word) ≡ ascent_of (nth (recount S.nodes n) n).parent (nth (recount S.nodes n) n).place
    links_are = ap₂ ascent_of (parent_is lift_arena n after_inside) (place_is lift_arena n after_inside)

    pub lift_end : ascent_of (word_at w' n parent_word) (word_at w' n place_word) ≡ None → Settled w' hd ns
    lift_end e = go K.way K.tree K.stand K.node_is
      where
        go : (c : Ctx (suc K.height)) (t : Tree (suc K.height)) → Part S.nodes c t K.free → t.no ≡ n → Settled w' hd ns
        go top t H m = record {
          nodes = recount S.nodes n;
          arena = lift_arena;
          same = kept_trans S.same (subst (λ (k : ℕ). Kept S.nodes (recount S.nodes k) [] []) m (right_kept top t K.free H));
          told = subst (λ (k : ℕ). Totals (recount S.nodes k)) m (settle_root t K.free H (subst (λ (k : ℕ). TotalsBut (k ∷ []) S.nodes) (sym m) K.told));
        }
        go (under f c) t H m =
            let k = (hangs f c t K.free (right_part (under f c) t K.free H)).link in
            let k' = subst (λ (q : ℕ). link_of (nth (recount S.nodes q) q) ≡ record { parent = f.no; place = length f.left }) m k in
            let a = links_are ∙ ap₂ ascent_of (link_parent k') (link_place k') ∙ ascent_edge f.no (length f.left) (λ z. omega (arith, root_inside c (fill f.no f.left t f.right) K.free (part_out f c t K.free H), H.few)) in
            let z : ◌≡◌ {A = ℕ} 0 1 = cc in
            absurd (omega arith)

    pub lift_on : (p : NodeNo) (i : Place) → ascent_of (word_at w' n parent_word) (word_at w' n place_word) ≡ Some (p, i) → (1 ≤ levels) × Settling w' hd ns p.0 (levels - 1) was now
    lift_on p i e = go K.way K.tree K.stand K.node_is K.deep S.lifts.off
      where
        go : (c : Ctx (suc K.height)) (t : Tree (suc K.height)) → Part S.nodes c t K.free → t.no ≡ n → above c ≤ levels → (nth S.nodes n).total + now ≡ length (flat (suc K.height) t) + was
            → (1 ≤ levels) × Settling w' hd ns p.0 (levels - 1) was now
        go top t H m d o =
            let k = (right_part top t K.free H).root in
            let k' = subst (λ (q : ℕ). link_of (nth (recount S.nodes q) q) ≡ record { parent = none; place = 0 }) m k in
            let a = links_are ∙ ascent_root _ _ (link_parent k') in
            let z : ◌≡◌ {A = ℕ} 0 1 = cc in
            absurd (omega arith)
        go (under f c) t H m d o =
            let k = (hangs f c t K.free (right_part (under f c) t K.free H)).link in
            let k' = subst (λ (q : ℕ). link_of (nth (recount S.nodes q) q) ≡ record { parent = f.no; place = length f.left }) m k in
            let a = links_are ∙ ap₂ ascent_of (link_parent k') (link_place k') ∙ ascent_edge f.no (length f.left) (λ z. omega (arith, root_inside c (fill f.no f.left t f.right) K.free (part_out f c t K.free H), H.few)) in
            let ep : f.no ≡ p.0 = same_node (sym a ∙ e) in
            let T : TotalsBut (t.no ∷ []) S.nodes = subst (λ (k : ℕ). TotalsBut (k ∷ []) S.nodes) (sym m) K.told in
            let o' = subst (λ (q : ℕ). (nth S.nodes q).total + now ≡ length (flat (suc K.height) t) + was) (sym m) o in
            let r : (q : ℕ) → t.no ≡ q → Arena w' hd (recount S.nodes q) → Settling w' hd ns f.no (levels - 1) was now = λ q z. subst (λ (q : ℕ). Arena w' hd (recount S.nodes q) → Settling w' hd ns f.no (levels - 1) was now) z (λ ar. record {
              nodes = recount S.nodes t.no;
              arena = ar;
              same = kept_trans S.same (right_kept (under f c) t K.free H);
              lifts = record {
                lone = record {
                  height = suc K.height;
                  way = c;
                  tree = fill f.no f.left t f.right;
                  free = K.free;
                  stand = up_part f c t K.free H T;
                  node_is = refl;
                  deep = omega arith;
                  told = up_told f c t K.free H T;
                };
                off = up_off f c t K.free H T was now o';
                low = S.lifts.low;
              };
            }) in
            (omega arith, subst (λ (q : ℕ). Settling w' hd ns q (levels - 1) was now) ep (r n m lift_arena))

-- ---- where it begins

pub lift_begin : {w hd : List ℕ} {ns : List NodeVal} {n h was now : ℕ} → h ≡ header w height_word → Arena w hd ns → Lifts ns n (header hd height_word) was now → Settling w hd ns n h was now
lift_begin {w} {hd} {ns} {n} {h} {was} {now} e a l = record {
  nodes = ns;
  arena = a;
  same = record { long = refl; bodies = λ q u. refl; frees = λ q u z. refl; roots = λ q u z. refl; links = l.lone.stand.links };
  lifts = subst (λ (k : ℕ). Lifts ns n k was now) (sym (e ∙ head_is a height_word (lit< tt))) l;
}

pub settle_lifts : {w hd : List ℕ} {ns : List NodeVal} {n was now : ℕ} → Arena w hd ns → Settles hd ns n → was ≡ word_at w n total_word → now ≡ due ns n → Lifts ns n (header hd height_word) was now
settle_lifts {ns = ns} {n = n} a s e d =
    let i = lone_inside ns n _ s.lone in
    record { lone = s.lone; off = omega (arith, e, d, total_is a n i, lone_due ns n _ s.lone); low = omega (arith, e, total_is a n i, s.low) }

pub settle_due : {w hd : List ℕ} {ns : List NodeVal} {n : ℕ} → Arena w hd ns → Settles hd ns n → due ns n < 18446744073709551616
settle_due {ns = ns} {n = n} a s = omega (arith, lone_due ns n _ s.lone, lone_few ns n _ a s.lone)
