-- A node shortened to its first pairs, and the step to the node above.
-- Assumes nothing.
use Prim.Native.Nat.{ℕ, zero, suc, ◌+◌, ◌≤◌, ◌<◌}
use native.Mathlib.Decide.{ℕ_discrete, dec_lt}
use native.Mathlib.Numerals.{add-one}
use native.Mathlib.Omega.{arith}
use mathlib.Core.Path.{◌≡◌, refl, sym, ap, ap₂, ◌∙◌, subst}
use mathlib.Core.Logic.{◌≢◌}
use mathlib.Core.List.{List, [], ◌∷◌, map}
use lib.ListN.{length, take, get_or, length-map, length-set, length-take}
use lib.Seq.{get_or-set_same, get_or-set_other, set_out, get_or-take, take-nil}
use Rattle.model.specs.Layout.{most, largest_count, NodeVal, nth, blank, Arena}
use Rattle.model.specs.Tree.{Pair, Item, Tree, Frame, Ctx, under, fill, fill_first, fill_rest, has}
use Rattle.model.specs.Words.{root_no, kind}
use Rattle.model.proofs.Lists.{one_same}
use Rattle.model.proofs.Plug.{length_fill, has_fill}
use Rattle.model.proofs.Sizes.{fill_parts}
use Rattle.store.specs.Links.{Body, body_of, link_of, with_body}
use Rattle.standing.specs.Kept.{Child, Links, Kept}
use Rattle.standing.specs.Standing.{numbered, edges_in, content_of, Stands, root_of}
use Rattle.standing.specs.Totals.{totals, TotalsBut}
use Rattle.standing.proofs.Leads.{one_self, link_parent}
use Rattle.standing.proofs.Frames.{stands_kept, all_kept, way_kept}
use Rattle.standing.proofs.Contents.{content_fill}
use Rattle.shrinking.proofs.Steps.{shaped}
use Rattle.totals.specs.Settling.{Part}
use Rattle.totals.proofs.Settling.{root_inside, due_here, flat_few, arena_small}
use Rattle.cutting.specs.Trims.{shortened, CutReady}

-- ---- the items of a node, with those right of the hole cut off

rest_cut : {B : Type 0} (f : Item ℕ → B) (l : List (Item ℕ)) (x : ℕ) (r : List (Item ℕ)) (j : ℕ) → take (length l + j) (map f (fill_rest l x r)) ≡ map f (fill_rest l x (take j r))
rest_cut f [] x r j = let z : 0 + j ≡ j = omega arith in rw z (go r j)
  where
    go : (r : List (Item ℕ)) (j : ℕ) → take j (map f r) ≡ map f (take j r)
    go [] zero = refl
    go [] (suc j) = refl
    go (y ∷ r) zero = refl
    go (y ∷ r) (suc j) = ap (λ t. f y ∷ t) (go r j)
rest_cut f (y ∷ l) x r j =
    let z : suc (length l) + j ≡ length l + suc j = omega arith in
    rw z (rest_cut f l y.edge (record { pair = y.pair; edge = x } ∷ r) (suc j))

rest_left : {B : Type 0} (f : Item ℕ → B) (l : List (Item ℕ)) (x : ℕ) (r : List (Item ℕ)) → take (length l) (map f (fill_rest l x r)) ≡ map f (fill_rest l x [])
rest_left f l x r = let z : length l ≡ length l + 0 = omega arith in ap (λ (n : ℕ). take n (map f (fill_rest l x r))) z ∙ rest_cut f l x r 0

edges_left : (h : ℕ) (l : List (Item ℕ)) (x : ℕ) (r : List (Item ℕ)) → take (length l + 1) (edges_in h (fill_first l x ∷ map (λ (z : Item ℕ). z.edge) (fill_rest l x r))) ≡ edges_in h (fill_first l x ∷ map (λ (z : Item ℕ). z.edge) (fill_rest l x []))
edges_left zero l x r = take-nil (length l + 1)
edges_left (suc h) l x r = rw (add-one (length l)) (ap (λ t. fill_first l x ∷ t) (rest_left (λ (z : Item ℕ). z.edge) l x r))

-- ---- what is kept

module _ (ns : List NodeVal) (n at : ℕ) where
  abbrev ms : List NodeVal
  ms = shortened ns n at

  abbrev short : NodeVal
  short = with_body (nth ns n) (take at (nth ns n).pairs) (take (at + 1) (nth ns n).edges)

  pub short_other : (q : ℕ) → q ≢ n → nth (shortened ns n at) q ≡ nth ns q
  short_other q d = get_or-set_other ns n q short blank d

  pub short_same : n < length ns → nth (shortened ns n at) n ≡ with_body (nth ns n) (take at (nth ns n).pairs) (take (at + 1) (nth ns n).edges)
  short_same l = get_or-set_same ns n short blank l

  -- links, states and counts
  module _ {B : Type 0} (f : NodeVal → B) (e : (v : NodeVal) (ps : List Pair) (es : List ℕ) → f (with_body v ps es) ≡ f v) where
    short_keeps : (q : ℕ) → f (nth ms q) ≡ f (nth ns q)
    short_keeps q = go (ℕ_discrete q n) (dec_lt n (length ns))
      where
        go : Dec (q ≡ n) → Dec (n < length ns) → f (nth ms q) ≡ f (nth ns q)
        go (yes z) (yes l) = rw z (ap f (short_same l) ∙ e (nth ns n) _ _)
        go (yes z) (no d) = rw (set_out ns n short (omega arith)) refl
        go (no d) l = ap f (short_other q d)

  short_link : (q : ℕ) → link_of (nth ms q) ≡ link_of (nth ns q)
  short_link = short_keeps link_of (λ v ps es. refl)

  short_state : (q : ℕ) → (nth ms q).state ≡ (nth ns q).state
  short_state = short_keeps (λ (v : NodeVal). v.state) (λ v ps es. refl)

  short_total : (q : ℕ) → (nth ms q).total ≡ (nth ns q).total
  short_total = short_keeps (λ (v : NodeVal). v.total) (λ v ps es. refl)

  short_child : (q i c : ℕ) → Child ns q i c → Child ms q i c
  short_child q i c k = record {
    within = subst (λ (m : ℕ). c < m) (sym (length-set ns n short)) k.within;
    live = subst (λ (m : ℕ). 1 ≤ m) (sym (short_state c)) k.live;
    link = short_link c ∙ k.link;
  }

  short_links : n < length ns → Links ns → Links ms
  short_links o L q i l = go (ℕ_discrete q n)
    where
      go : Dec (q ≡ n) → Child ms q i (get_or (nth ms q).edges i 0)
      go (no d) =
          let e : (nth ms q).edges ≡ (nth ns q).edges = ap (λ (v : NodeVal). v.edges) (short_other q d) in
          subst (Child ms q i) (sym (ap (λ (es : List ℕ). get_or es i 0) e)) (short_child q i _ (L q i (subst (λ (es : List ℕ). i < length es) e l)))
      go (yes z) =
          let e : (nth ms q).edges ≡ take (at + 1) (nth ns q).edges = rw z (ap (λ (v : NodeVal). v.edges) (short_same o)) in
          let g : i < length (take (at + 1) (nth ns q).edges) = subst (λ (es : List ℕ). i < length es) e l in
          let k : length (take (at + 1) (nth ns q).edges) ≡ _ = length-take (at + 1) (nth ns q).edges in
          let a : i < at + 1 = omega arith in
          let b : i < length (nth ns q).edges = omega arith in
          subst (Child ms q i) (sym (ap (λ (es : List ℕ). get_or es i 0) e ∙ get_or-take (at + 1) (nth ns q).edges i 0 a)) (short_child q i _ (L q i b))

  pub short_kept : n < length ns → 1 ≤ (nth ns n).state → Links ns → Kept ns (shortened ns n at) (n ∷ []) []
  short_kept o live L = record {
    long = length-set ns n short;
    bodies = λ q u. ap body_of (short_other q (λ e. omega (arith, one_same n q (sym e))));
    frees = λ q u z. short_other q (λ e. omega (arith, one_same n q (sym e)));
    roots = λ q u z. short_link q;
    links = short_links o L;
  }

  -- no node holds more
  pub short_small : ((q : ℕ) → length (nth ns q).pairs ≤ most) → (q : ℕ) → length (nth (shortened ns n at) q).pairs ≤ most
  short_small s q = go (ℕ_discrete q n) (dec_lt n (length ns))
    where
      go : Dec (q ≡ n) → Dec (n < length ns) → length (nth ms q).pairs ≤ most
      go (yes z) (yes l) =
          let e : (nth ms q).pairs ≡ take at (nth ns q).pairs = rw z (ap (λ (v : NodeVal). v.pairs) (short_same l)) in
          subst (λ (ps : List Pair). length ps ≤ most) (sym e) (omega (arith, length-take at (nth ns q).pairs, s q))
      go (yes z) (no d) = rw (set_out ns n short (omega arith)) (s q)
      go (no d) l = subst (λ (v : NodeVal). length v.pairs ≤ most) (sym (short_other q d)) (s q)

  -- counts are wrong nowhere else
  pub short_told : TotalsBut (n ∷ []) ns → TotalsBut (n ∷ []) (shortened ns n at)
  short_told T q u =
      let e = short_other q (λ z. omega (arith, one_same n q (sym z))) in
      short_total q ∙ T q u ∙ sym (ap (λ (v : NodeVal). length v.pairs + totals ms v.edges) e ∙ ap (λ (k : ℕ). length (nth ns q).pairs + k) (same (nth ns q).edges))
    where
      same : (cs : List ℕ) → totals ms cs ≡ totals ns cs
      same [] = refl
      same (c ∷ cs) = ap₂ ◌+◌ (short_total c) (same cs)

-- ---- the tree afterwards

kind_live : (h : ℕ) → 1 ≤ kind h
kind_live zero = omega arith
kind_live (suc h) = omega arith

module _ {ns : List NodeVal} {h : ℕ} (f : Frame (Tree h)) (c : Ctx (suc h)) (t : Tree h) (free : List ℕ) (H : Part ns (under f c) t free) where
  abbrev at : ℕ
  at = length f.left

  abbrev cut : Tree (suc h)
  cut = fill f.no f.left t []

  pub cut_inside : f.no < length ns
  cut_inside = H.within f.no (omega (arith, one_self f.no))

  live : 1 ≤ (nth ns f.no).state
  live = subst (λ (k : ℕ). 1 ≤ k) (sym (ap (λ (b : Body). b.state) H.way.0)) (kind_live h)

  kept : Kept ns (shortened ns f.no at) (f.no ∷ []) []
  kept = short_kept ns f.no at cut_inside live H.links

  long : length (numbered h f.left) ≡ at
  long = length-map {B = Item ℕ} f.left (λ (x : Item (Tree h)). record { pair = x.pair; edge = root_no h x.edge })

  pub cut_place : length f.left ≤ length (nth ns f.no).pairs
  cut_place =
      let e = ap (λ (b : Body). length b.pairs) H.way.0 ∙ length-map (fill_rest (numbered h f.left) (root_no h t) (numbered h f.right)) (λ (x : Item ℕ). x.pair) in
      omega (arith, e, long, length_fill f.no (numbered h f.left) (root_no h t) (numbered h f.right))

  body : body_of (nth (shortened ns f.no at) f.no) ≡ content_of h (fill f.no (numbered h f.left) (root_no h t) [])
  body =
      let b = H.way.0 in
      let l = numbered h f.left in
      let x = root_no h t in
      let r = numbered h f.right in
      let ps : take at (nth ns f.no).pairs ≡ map (λ (z : Item ℕ). z.pair) (fill_rest l x []) = ap (λ (y : Body). take at y.pairs) b ∙ ap (λ (k : ℕ). take k (map (λ (z : Item ℕ). z.pair) (fill_rest l x r))) (sym long) ∙ rest_left (λ (z : Item ℕ). z.pair) l x r in
      let es : take (at + 1) (nth ns f.no).edges ≡ edges_in h (fill_first l x ∷ map (λ (z : Item ℕ). z.edge) (fill_rest l x [])) = ap (λ (y : Body). take (at + 1) y.edges) b ∙ ap (λ (k : ℕ). take (k + 1) (edges_in h (fill_first l x ∷ map (λ (z : Item ℕ). z.edge) (fill_rest l x r)))) (sym long) ∙ edges_left h l x r in
      ap body_of (short_same ns f.no at cut_inside) ∙ (λ i. record { state = (b i).state; pairs = ps i; edges = es i })

  pub cut_part : Part (shortened ns f.no (length f.left)) c (fill f.no f.left t []) free
  cut_part =
      let ms = shortened ns f.no at in
      let K = kept in
      let w = H.way in
      let xs = f.no ∷ [] in
      let l = all_kept ns ms xs [] K h f.left (λ q. omega (arith, H.once q)) w.1 in
      let u = stands_kept ns ms xs [] K h t (λ q. omega (arith, H.once q)) H.tree in
      let p = fill_parts (Stands ms h) f.no f.left t [] l u tt in
      record {
        few = subst (λ (k : ℕ). k ≤ largest_count) (sym K.long) H.few;
        way = way_kept ns ms xs [] K c f.no (λ q. omega (arith, H.once q)) w.3;
        tree = (body ∙ sym (content_fill h f.no f.left t []), p.0, p.1);
        links = K.links;
        root = K.roots (root_of c f.no) refl (link_parent H.root) ∙ H.root;
        once = λ m. omega (arith, H.once m, has_fill (has m h) m f.no f.left t []);
        within = λ m v. subst (λ (k : ℕ). m < k) (sym K.long) (H.within m (omega (arith, has_fill (has m h) m f.no f.left t [])));
      }

  module _ (T : TotalsBut (f.no ∷ []) ns) where
    pub cut_told : TotalsBut (f.no ∷ []) (shortened ns f.no (length f.left))
    cut_told = short_told ns f.no at T

    pub cut_ready : {w hd : List ℕ} → Arena w hd ns → CutReady ns f.no (length f.left)
    cut_ready a = record {
      node = cut_inside;
      place = cut_place;
      shaped = shaped (shortened ns f.no at) cut_part.links f.no (root_no h cut.first) (numbered h cut.rest) (root_inside c cut free cut_part) h cut_part.tree.0;
      few =
          let P = cut_part in
          omega (
            arith,
            due_here c cut free P cut_told,
            flat_few (shortened ns f.no at) (short_small ns f.no at (arena_small ns a)) P.few (suc h) cut P.tree (λ m. omega (arith, P.once m)) (λ m u. P.within m (omega arith)),
          );
    }
