-- A pair taken out of a leaf, and a pair put in the place of another in any node, on the list of nodes.
-- Assumes nothing.
use Prim.Native.Nat.{ℕ, suc, ◌+◌, ◌≤◌, ◌<◌}
use native.Mathlib.Decide.{ℕ_discrete}
use native.Mathlib.Omega.{arith}
use mathlib.Core.Path.{◌≡◌, refl, ap, ap₂, ◌∙◌, sym}
use mathlib.Core.Logic.{◌≢◌}
use mathlib.Core.List.{List, [], ◌∷◌, map}
use lib.ListN.{length, get_or, set, length-map, length-set}
use lib.Seq.{get_or-set_same, get_or-set_other}
use Rattle.model.specs.Lists.{one, times}
use Rattle.model.specs.Tree.{Pair, Item, Tree, Ctx, fill, fill_first, fill_rest, has_in, has, has_ctx}
use Rattle.model.specs.Layout.{NodeVal, nth, blank}
use Rattle.model.specs.Words.{root_no}
use Rattle.model.specs.Sound.{AllIn}
use Rattle.model.proofs.Lists.{one_same}
use Rattle.model.proofs.Plug.{has_fill}
use Rattle.model.proofs.Sizes.{fill_parts, parts_fill}
use Rattle.slices.specs.Words.{remove_at}
use Rattle.node.specs.Reading.{pair_at}
use Rattle.store.specs.Links.{Body, body_of, link_of}
use Rattle.leaf.specs.Pairs.{with_pairs, put_pairs, PairAt, replace_pair, remove_pair}
use Rattle.standing.specs.Kept.{Links, Kept}
use Rattle.standing.specs.Standing.{numbered, edges_in, content, content_of, Stands, root_of, Hole}
use Rattle.standing.proofs.Leads.{one_self, link_parent}
use Rattle.standing.proofs.Frames.{stands_kept, all_kept, way_kept, chain_kept}
use Rattle.standing.proofs.Contents.{content_fill}
use Rattle.shrinking.proofs.Items.{body_parts, pair_in, edge_in, column_long, gone, there, swapped, alike}

-- ---- other pairs in a node: its edges stay

module _ (ns : List NodeVal) (L : Links ns) (n : ℕ) (o : n < length ns) (ps : List Pair) where
  abbrev v : NodeVal
  v = with_pairs (nth ns n) ps

  at_n : nth (put_pairs ns n ps) n ≡ v
  at_n = get_or-set_same ns n v blank o

  other : (q : ℕ) → q ≢ n → nth (put_pairs ns n ps) q ≡ nth ns q
  other q d = get_or-set_other ns n q v blank d

  -- a field that v has from n is the same everywhere
  same : {A : Type 0} (f : NodeVal → A) → f v ≡ f (nth ns n) → (q : ℕ) → f (nth (put_pairs ns n ps) q) ≡ f (nth ns q)
  same {A} f e q = go (ℕ_discrete q n)
    where
      go : Dec (q ≡ n) → f (nth (put_pairs ns n ps) q) ≡ f (nth ns q)
      go (yes d) = rw d (ap f at_n ∙ e)
      go (no d) = ap f (other q d)

  pub pairs_kept : Kept ns (put_pairs ns n ps) (n ∷ []) []
  pairs_kept = record {
    long = length-set ns n v;
    bodies = λ q z. ap body_of (other q (λ e. omega (arith, one_same n q (sym e))));
    frees = λ q z s. other q (λ e. omega (arith, one_same n q (sym e)));
    roots = λ q z s. same link_of refl q;
    links = λ q j h.
        let e = same (λ (u : NodeVal). u.edges) refl q in
        let k = L q j (rw e at h) in
        let x = get_or (nth ns q).edges j 0 in
        rw e (record { within = rw length-set k.within; live = rw (same (λ (u : NodeVal). u.state) refl x) k.live; link = same link_of refl x ∙ k.link });
  }

  pub pairs_body : body_of (nth (put_pairs ns n ps) n) ≡ record { state = (nth ns n).state; pairs = ps; edges = (nth ns n).edges }
  pairs_body = ap body_of at_n

-- ---- a node with a pair z: the edges and pairs left of it, and right of it

module _ {h : ℕ} (c : Ctx (suc h)) (n : ℕ) (l : List (Item (Tree h))) (d : Tree h) (z : Item (Tree h)) (r : List (Item (Tree h))) (free : List ℕ) {ns : List NodeVal} (H : Hole ns c (fill n l d (z ∷ r)) free) where
  abbrev was : Tree (suc h)
  was = fill n l d (z ∷ r)

  inside : n < length ns
  inside = H.within n (omega (arith, one_self n))

  abbrev Ls : List (Item ℕ)
  Ls = numbered h l

  abbrev Rs : List (Item ℕ)
  Rs = numbered h r

  abbrev num : Item (Tree h) → Item ℕ
  num x = record { pair = x.pair; edge = root_no h x.edge }

  i_is : length Ls ≡ length l
  i_is = length-map l _

  body_is : ((nth ns n).state ≡ (content h 0 []).state) × ((nth ns n).pairs ≡ map pair_in (fill_rest Ls (root_no h d) (num z ∷ Rs))) × ((nth ns n).edges ≡ edges_in h (fill_first Ls (root_no h d) ∷ map edge_in (fill_rest Ls (root_no h d) (num z ∷ Rs))))
  body_is = body_parts (nth ns n) _ (H.tree.0 ∙ content_fill h n l d (z ∷ r))

  pub pair_ready : PairAt ns n (length l)
  pair_ready = record { node = inside; place = rw body_is.1 (omega (arith, column_long n Ls (root_no h d) pair_in (num z ∷ Rs), i_is)) }

  pub pair_is : pair_at (nth ns n).pairs (length l) ≡ z.pair
  pair_is = rw (body_is.1, ← i_is) (there n Ls (root_no h d) pair_in (num z) Rs (record { key = 0; val = 0 }))

  pub pairs_long : length (nth ns n).pairs ≡ length l + suc (length r)
  pairs_long = rw body_is.1 (omega (arith, column_long n Ls (root_no h d) pair_in (num z ∷ Rs), i_is, length-map r num))

  -- what stands beside the pair
  apart : (q : ℕ) → has_ctx q c + (one n q + (has_in (has q h) l + (has q h d + (has q h z.edge + has_in (has q h) r)))) + times q free ≤ 1
  apart q = omega (arith, H.once q, has_fill (has q h) q n l d (z ∷ r))

  -- the same node with other items right of d
  module _ (ns' : List NodeVal) (K : Kept ns ns' (n ∷ []) []) (r' : List (Item (Tree h))) (body' : body_of (nth ns' n) ≡ content_of h (fill n Ls (root_no h d) (numbered h r'))) (keeps : AllIn (Stands ns' h) (z ∷ r) → AllIn (Stands ns' h) r') (as_many : (q : ℕ) → has_in (has q h) r' ≡ has q h z.edge + has_in (has q h) r) where
    other_items : Hole ns' c (fill n l d r') free
    other_items =
        let s = H.tree in
        let a = parts_fill (Stands ns h) n l d (z ∷ r) s.1 s.2 in
        let b =
        fill_parts (Stands ns' h) n l d r' (all_kept ns ns' _ _ K h l (λ q. omega (arith, apart q)) a.0) (stands_kept ns ns' _ _ K h d (λ q. omega (arith, apart q)) a.1)
        (keeps (all_kept ns ns' _ _ K h (z ∷ r) (λ q. omega (arith, apart q)) a.2)) in
        let same : (q : ℕ) → has q (suc h) (fill n l d r') ≡ has q (suc h) was = λ q. omega (arith, has_fill (has q h) q n l d r', has_fill (has q h) q n l d (z ∷ r), as_many q) in
        record {
          few = rw K.long H.few;
          way = way_kept ns ns' _ _ K c n (λ q. omega (arith, apart q)) H.way;
          tree = (body' ∙ sym (content_fill h n l d r'), b.0, b.1);
          chain = chain_kept ns ns' _ _ K free (λ q. omega (arith, apart q)) H.chain;
          rises = H.rises;
          links = K.links;
          root = K.roots (root_of c n) refl (link_parent H.root) ∙ H.root;
          once = λ q. omega (arith, H.once q, same q);
          within = λ q g. rw K.long (H.within q (omega (arith, same q)));
          all = λ q g. omega (arith, H.all q (rw K.long at g), same q);
        }

  -- ---- another pair in its place

  module _ (p : Pair) where
    abbrev new : Item (Tree h)
    new = record { pair = p; edge = z.edge }

    abbrev after_replace : List NodeVal
    after_replace = replace_pair ns n (length l) p

    Kr : Kept ns after_replace (n ∷ []) []
    Kr = pairs_kept ns H.links n inside (set (nth ns n).pairs (length l) p)

    replaced_body : body_of (nth after_replace n) ≡ content_of h (fill n Ls (root_no h d) (numbered h (new ∷ r)))
    replaced_body =
        pairs_body ns H.links n inside (set (nth ns n).pairs (length l) p)
        ∙ rw (body_is.0, body_is.1, body_is.2, ← i_is)
        (ap₂ {C = Body} (λ (s : List Pair) (t : List ℕ). record { state = (content h 0 []).state; pairs = s; edges = edges_in h (fill_first Ls (root_no h d) ∷ t) }) (swapped n Ls (root_no h d) pair_in (num z) (num new) Rs) (alike n Ls (root_no h d) edge_in (num z) (num new) Rs refl))

    pub replace_long : length (replace_pair ns n (length l) p) ≡ length ns
    replace_long = Kr.long

    pub replace_step : Hole (replace_pair ns n (length l) p) c (fill n l d (record { pair = p; edge = z.edge } ∷ r)) free
    replace_step = other_items after_replace Kr (new ∷ r) replaced_body (λ a. a) (λ q. omega arith)

-- ---- it is taken out of a leaf

module _ (c : Ctx 1) (n : ℕ) (l : List (Item (Tree 0))) (d : Tree 0) (z : Item (Tree 0)) (r : List (Item (Tree 0))) (free : List ℕ) {ns : List NodeVal} (H : Hole ns c (fill n l d (z ∷ r)) free) where
  abbrev after_remove : List NodeVal
  after_remove = remove_pair ns n (length l)

  Km : Kept ns after_remove (n ∷ []) []
  Km = pairs_kept ns H.links n (inside c n l d z r free H) (remove_at (nth ns n).pairs (length l))

  removed_body : body_of (nth after_remove n) ≡ content_of 0 (fill n (numbered 0 l) 0 (numbered 0 r))
  removed_body =
      let b = body_is c n l d z r free H in
      pairs_body ns H.links n (inside c n l d z r free H) (remove_at (nth ns n).pairs (length l))
      ∙ rw (b.0, b.1, b.2, ← i_is c n l d z r free H)
      (ap {B = Body} (λ (s : List Pair). record { state = (content 0 0 []).state; pairs = s; edges = [] }) (gone n (numbered 0 l) 0 pair_in (record { pair = z.pair; edge = 0 }) (numbered 0 r)))

  pub remove_long : length (remove_pair ns n (length l)) ≡ length ns
  remove_long = Km.long

  pub remove_step : Hole (remove_pair ns n (length l)) c (fill n l d r) free
  remove_step = other_items c n l d z r free H after_remove Km r removed_body (λ a. a.1) (λ q. omega arith)
