-- The steps of the repair, on the list of nodes: how a hole and its neighbour are seen, a merge, a move, a root taken off; and what each
-- of the store's calls asks.
-- Assumes nothing.
use Prim.Native.Nat.{ℕ, zero, suc, ◌+◌, ◌≤◌, ◌<◌}
use native.Mathlib.Numerals.{add-one}
use native.Mathlib.Omega.{arith}
use mathlib.Core.Path.{◌≡◌, refl, ap, ap₂, ◌∙◌, sym}
use mathlib.Core.List.{List, [], ◌∷◌, ◌++◌, map, tail, map-append}
use lib.ListN.{length, take, drop, get_or, length-map}
use Rattle.model.specs.Lists.{All, one, times}
use Rattle.model.specs.Tree.{Pair, Item, Tree, Ctx, top, under, fill, fill_first, fill_rest, Twin, has_in, has, has_ctx}
use Rattle.model.specs.Layout.{none, most, internal, NodeVal, nth}
use Rattle.model.specs.Nodes.{returned}
use Rattle.model.specs.Words.{kind, root_no, first_or}
use Rattle.model.specs.Sound.{AllIn}
use Rattle.model.specs.Insert.{cut, edge_of}
use Rattle.model.specs.Remove.{join}
use Rattle.model.proofs.Lists.{one_same}
use Rattle.model.proofs.Frees.{returned_times, returned_rises}
use Rattle.model.proofs.Plug.{has_fill}
use Rattle.model.proofs.Sizes.{fill_parts}
use Rattle.model.proofs.Cut.{join_all, cut_all, has_join, has_cut}
use Rattle.slices.specs.Words.{remove_at}
use Rattle.slices.proofs.Laws.{map_take, map_drop}
use Rattle.store.specs.Links.{Body, body_of, first_free, free_nodes, Frees}
use Rattle.internal.specs.Inner as header
use Rattle.internal.specs.Inner.{Branches, pop_nodes, PopReady}
use Rattle.balance.specs.Moves as store
use Rattle.balance.specs.Moves.{edges_with, Shaped, joined_pairs, joined_edges, merge_nodes, MergeReady, move_nodes, StealReady}
use Rattle.standing.specs.Kept.{Links, Kept}
use Rattle.standing.specs.Standing.{numbered, edges_in, content, content_of, Stands, root_of, Hole, Beside, Closed}
use Rattle.standing.proofs.Leads.{one_self, link_parent}
use Rattle.standing.proofs.Frames.{stands_kept, all_kept, way_kept, chain_kept}
use Rattle.standing.proofs.Contents.{content_fill}
use Rattle.standing.proofs.Freed.{hole_frees}
use Rattle.shrinking.proofs.Three.{Siblings}
use Rattle.shrinking.proofs.Moves.{merge_frees, merge_kept, merge_chain, merge_parent, merge_left, move_kept, move_parent, move_left, move_right}
use Rattle.shrinking.proofs.Pop.{pop_frees, pop_kept, pop_chain, pop_root}
use Rattle.shrinking.proofs.Items.{body_parts, pair_in, edge_in, column_long, gone, there, swapped, alike, num_edge, between, map_tail, low_content, high_content}

pub root_in : {h : ℕ} (c : Ctx h) (k : ℕ) → 1 ≤ has_ctx (root_of c k) c + one k (root_of c k)
root_in top k = omega (arith, one_self k)
root_in (under f c) k = omega (arith, root_in c f.no)

-- ---- a node's shape

all_of : (P : ℕ → Type 0) (l : List ℕ) → ((j : ℕ) → j < length l → P (get_or l j 0)) → All P l
all_of P [] f = tt
all_of P (x ∷ l) f = (f 0 (omega arith), all_of P l (λ j h. f (suc j) (omega arith)))

module _ (ns : List NodeVal) (L : Links ns) (n e : ℕ) (r : List (Item ℕ)) (o : n < length ns) where
  pub content_pairs : (h : ℕ) → body_of (nth ns n) ≡ content h e r → length (nth ns n).pairs ≡ length r
  content_pairs h b = ap length (body_parts (nth ns n) _ b).1 ∙ length-map r pair_in

  edges_lead : All (λ (c : ℕ). c < length ns) (nth ns n).edges
  edges_lead = all_of (λ c. c < length ns) (nth ns n).edges (λ j l. (L n j l).within)

  pub content_edges : (h : ℕ) → body_of (nth ns n) ≡ content (suc h) e r → length (nth ns n).edges ≡ length (nth ns n).pairs + 1
  content_edges h b = ap length (body_parts (nth ns n) _ b).2 ∙ ap suc (length-map r edge_in) ∙ omega (arith, content_pairs (suc h) b)

  pub branching : (h : ℕ) → body_of (nth ns n) ≡ content (suc h) e r → Branches ns n
  branching h b = record { state_is = (body_parts (nth ns n) _ b).0; edges_are = content_edges h b; lead = edges_lead }

  pub shaped : (h : ℕ) → body_of (nth ns n) ≡ content h e r → Shaped ns n
  unfolding edges_with
  shaped zero b = let v = body_parts (nth ns n) _ b in record { node = o; edges_are = rw (v.0, v.2) refl; lead = edges_lead }
  shaped (suc h) b = record { node = o; edges_are = content_edges h b ∙ rw (body_parts (nth ns n) _ b).0 refl; lead = edges_lead }

-- ---- a hole and the neighbour of what is in it

module _ {h : ℕ} (c : Ctx (suc (suc h))) (n : ℕ) (l : List (Item (Tree (suc h)))) (w : Twin (Tree (suc h))) (r : List (Item (Tree (suc h)))) where
  abbrev pub at_low : Ctx (suc h)
  at_low = under (record { no = n; left = l; right = record { pair = w.pair; edge = w.right } ∷ r }) c

  abbrev pub at_high : Ctx (suc h)
  at_high = under (record { no = n; left = record { pair = w.pair; edge = w.left } ∷ l; right = r }) c

  pub beside_low : (free : List ℕ) {ns : List NodeVal} → Hole ns at_low w.left free → Beside ns c n l w r free
  beside_low free H = record {
    few = H.few;
    way = H.way.3;
    body = H.way.0;
    lefts = H.way.1;
    low = H.tree;
    high = H.way.2.0;
    rights = H.way.2.1;
    chain = H.chain;
    rises = H.rises;
    links = H.links;
    root = H.root;
    once = λ q. omega (arith, H.once q);
    within = λ q g. H.within q (omega arith);
    all = λ q g. omega (arith, H.all q g);
  }

  pub beside_high : (free : List ℕ) {ns : List NodeVal} → Hole ns at_high w.right free → Beside ns c n l w r free
  beside_high free H = record {
    few = H.few;
    way = H.way.3;
    body = H.way.0;
    lefts = H.way.1.1;
    low = H.way.1.0;
    high = H.tree;
    rights = H.way.2;
    chain = H.chain;
    rises = H.rises;
    links = H.links;
    root = H.root;
    once = λ q. omega (arith, H.once q);
    within = λ q g. H.within q (omega arith);
    all = λ q g. omega (arith, H.all q g);
  }

  pub hole_low : (free : List ℕ) {ns : List NodeVal} → Beside ns c n l w r free → Hole ns at_low w.left free
  hole_low free T = record {
    few = T.few;
    way = (T.body, T.lefts, (T.high, T.rights), T.way);
    tree = T.low;
    chain = T.chain;
    rises = T.rises;
    links = T.links;
    root = T.root;
    once = λ q. omega (arith, T.once q);
    within = λ q g. T.within q (omega arith);
    all = λ q g. omega (arith, T.all q g);
  }

  pub hole_high : (free : List ℕ) {ns : List NodeVal} → Beside ns c n l w r free → Hole ns at_high w.right free
  hole_high free T = record {
    few = T.few;
    way = (T.body, (T.low, T.lefts), T.rights, T.way);
    tree = T.high;
    chain = T.chain;
    rises = T.rises;
    links = T.links;
    root = T.root;
    once = λ q. omega (arith, T.once q);
    within = λ q g. T.within q (omega arith);
    all = λ q g. omega (arith, T.all q g);
  }

-- ---- two neighbours

module _ {h : ℕ} (c : Ctx (suc (suc h))) (n : ℕ) (l : List (Item (Tree (suc h)))) (w : Twin (Tree (suc h))) (r : List (Item (Tree (suc h)))) (free : List ℕ) {ns : List NodeVal} (T : Beside ns c n l w r free) where
  abbrev i : ℕ
  i = length l

  abbrev a : Tree (suc h)
  a = w.left

  abbrev b : Tree (suc h)
  b = w.right

  abbrev Ls : List (Item ℕ)
  Ls = numbered (suc h) l

  abbrev Rs : List (Item ℕ)
  Rs = numbered (suc h) r

  abbrev y : Item ℕ
  y = record { pair = w.pair; edge = b.no }

  abbrev J : List (Item (Tree h))
  J = (join w).rest

  i_is : length Ls ≡ i
  i_is = length-map l _

  parent_is : ((nth ns n).state ≡ internal) × ((nth ns n).pairs ≡ map pair_in (fill_rest Ls a.no (y ∷ Rs))) × ((nth ns n).edges ≡ fill_first Ls a.no ∷ map edge_in (fill_rest Ls a.no (y ∷ Rs)))
  parent_is = body_parts (nth ns n) _ T.body

  low_is : ((nth ns a.no).state ≡ kind h) × ((nth ns a.no).pairs ≡ map pair_in (numbered h a.rest)) × ((nth ns a.no).edges ≡ edges_in h (root_no h a.first ∷ map edge_in (numbered h a.rest)))
  low_is = body_parts (nth ns a.no) _ T.low.0

  high_is : ((nth ns b.no).state ≡ kind h) × ((nth ns b.no).pairs ≡ map pair_in (numbered h b.rest)) × ((nth ns b.no).edges ≡ edges_in h (root_no h b.first ∷ map edge_in (numbered h b.rest)))
  high_is = body_parts (nth ns b.no) _ T.high.0

  parent_in : n < length ns
  parent_in = T.within n (omega (arith, one_self n))

  pub left_in : w.left.no < length ns
  left_in = T.within a.no (omega (arith, one_self a.no))

  pub right_in : w.right.no < length ns
  right_in = T.within b.no (omega (arith, one_self b.no))

  pub left_long : length (nth ns w.left.no).pairs ≡ length w.left.rest
  left_long = ap length low_is.1 ∙ (length-map (numbered h a.rest) pair_in ∙ length-map a.rest _)

  pub right_long : length (nth ns w.right.no).pairs ≡ length w.right.rest
  right_long = ap length high_is.1 ∙ (length-map (numbered h b.rest) pair_in ∙ length-map b.rest _)

  place_in : i < length (nth ns n).pairs
  place_in = rw parent_is.1 (omega (arith, column_long n Ls a.no pair_in (y ∷ Rs), i_is))

  siblings : Siblings ns n i a.no b.no
  siblings = record {
    few = T.few;
    parent = parent_in;
    left = left_in;
    right = right_in;
    not_left = λ e. omega (arith, T.once a.no, one_self a.no, one_same n a.no e);
    not_right = λ e. omega (arith, T.once b.no, one_self b.no, one_same n b.no e);
    apart = λ e. omega (arith, T.once b.no, one_self b.no, one_same a.no b.no e);
    inside = rw parent_is.2 (omega (arith, column_long n Ls a.no edge_in (y ∷ Rs), i_is));
    right_is = rw (parent_is.2, add-one, ← i_is) (there n Ls a.no edge_in y Rs 0);
  }

  -- ---- what the store asks

  pub store_beside : store.Beside ns n (length l) w.left.no w.right.no
  store_beside = record {
    parent = parent_in;
    place = place_in;
    branches = branching ns T.links n (fill_first Ls a.no) (fill_rest Ls a.no (y ∷ Rs)) parent_in h T.body;
    left = shaped ns T.links a.no (root_no h a.first) (numbered h a.rest) left_in h T.low.0;
    right = shaped ns T.links b.no (root_no h b.first) (numbered h b.rest) right_in h T.high.0;
    alike = high_is.0 ∙ sym low_is.0;
    not_left = siblings.not_left;
    not_right = siblings.not_right;
    apart = siblings.apart;
  }

  -- the free nodes, under a header that says them
  module _ (hd : List ℕ) (ef : first_free hd ≡ first_or free) (en : free_nodes hd ≡ length free) where
    frees : Frees hd ns free
    frees = hole_frees (at_low c n l w r) w.left free (hole_low c n l w r free T) hd ef en

    apart : (q : ℕ) → times q free + times q (n ∷ w.left.no ∷ w.right.no ∷ []) ≤ 1
    apart q = omega (arith, T.once q)

    pub merge_ready : length w.left.rest + 1 + length w.right.rest ≤ most → length free < length ns → MergeReady hd ns free n (length l) w.left.no w.right.no
    merge_ready f u = record { beside = store_beside; fits = omega (arith, left_long, right_long); out = omega (arith, T.once b.no, one_self b.no); used = u; frees = merge_frees ns T.links n i a.no b.no siblings free frees apart }

  pub lends_left : (count : ℕ) → 1 ≤ count → count ≤ length w.left.rest → length w.right.rest + count ≤ most → StealReady ns n (length l) w.left.no w.right.no w.left.no w.right.no count
  lends_left count s f m = record { beside = store_beside; some = s; has = omega (arith, left_long); room = omega (arith, right_long) }

  pub lends_right : (count : ℕ) → 1 ≤ count → count ≤ length w.right.rest → length w.left.rest + count ≤ most → StealReady ns n (length l) w.left.no w.right.no w.right.no w.left.no count
  lends_right count s f m = record { beside = store_beside; some = s; has = omega (arith, right_long); room = omega (arith, left_long) }

  -- ---- both together

  joined_pairs_lem : joined_pairs ns n i a.no b.no ≡ map pair_in (numbered h J)
  joined_pairs_lem =
      rw (parent_is.1, low_is.1, high_is.1, ← i_is, there n Ls a.no pair_in y Rs (record { key = 0; val = 0 }))
      (sym (ap (map pair_in) (map-append _ a.rest (record { pair = w.pair; edge = b.first } ∷ b.rest)) ∙ map-append pair_in (numbered h a.rest) (numbered h (record { pair = w.pair; edge = b.first } ∷ b.rest))))

  joined_edges_lem : joined_edges ns a.no b.no ≡ edges_in h (root_no h a.first ∷ map edge_in (numbered h J))
  joined_edges_lem =
      rw (low_is.2, high_is.2)
      (go h (root_no h a.first) (root_no h b.first) (numbered h a.rest) (numbered h b.rest)
      ∙ ap (λ (t : List (Item ℕ)). edges_in h (root_no h a.first ∷ map edge_in t)) (sym (map-append _ a.rest (record { pair = w.pair; edge = b.first } ∷ b.rest))))
    where
      go : (k e f : ℕ) (s t : List (Item ℕ)) → edges_in k (e ∷ map edge_in s) ++ edges_in k (f ∷ map edge_in t) ≡ edges_in k (e ∷ map edge_in (s ++ (record { pair = w.pair; edge = f } ∷ t)))
      go zero e f s t = refl
      go (suc k) e f s t = ap {B = List ℕ} (λ u. e ∷ u) (sym (map-append edge_in s (record { pair = w.pair; edge = f } ∷ t)))

  root_parent : (nth ns (root_of c n)).parent ≡ none
  root_parent = link_parent T.root

  -- ---- a merge

  module _ (hd : List ℕ) (ef : first_free hd ≡ first_or free) (en : free_nodes hd ≡ length free) where
    abbrev pub after_merge : List NodeVal
    after_merge = merge_nodes free ns n (length l) w.left.no w.right.no

    pub K : Kept ns after_merge (n ∷ a.no ∷ b.no ∷ free) (b.no ∷ free)
    K = merge_kept ns T.links n i a.no b.no siblings free (frees hd ef en) (apart hd ef en)

    inner : (t : Tree h) → ((q : ℕ) → has q h t + times q (n ∷ a.no ∷ b.no ∷ free) ≤ 1) → Stands ns h t → Stands after_merge h t
    inner t z s = stands_kept ns after_merge _ _ K h t z s

    merged_parent : body_of (nth after_merge n) ≡ content_of (suc h) (fill n Ls a.no Rs)
    unfolding remove_at
    merged_parent =
        merge_parent ns T.links n i a.no b.no siblings free (frees hd ef en) (apart hd ef en)
        ∙ rw (parent_is.0, parent_is.1, parent_is.2, add-one, ← i_is)
        (ap₂ {C = Body} (λ (s : List Pair) (t : List ℕ). record { state = internal; pairs = s; edges = fill_first Ls a.no ∷ t }) (gone n Ls a.no pair_in y Rs) (gone n Ls a.no edge_in y Rs))

    merged_left : body_of (nth after_merge a.no) ≡ content h (root_no h a.first) (numbered h J)
    merged_left = merge_left ns T.links n i a.no b.no siblings free (frees hd ef en) (apart hd ef en) ∙ rw (low_is.0, joined_pairs_lem, joined_edges_lem) refl

    joined_stands : Stands after_merge (suc h) (join w)
    joined_stands = (
      merged_left,
      inner a.first (λ q. omega (arith, T.once q)) T.low.1,
      join_all (Stands after_merge h) w (all_kept ns after_merge _ _ K h a.rest (λ q. omega (arith, T.once q)) T.low.2)
          (inner b.first (λ q. omega (arith, T.once q)) T.high.1)
          (all_kept ns after_merge _ _ K h b.rest (λ q. omega (arith, T.once q)) T.high.2),
    )

    merge_counts : (q : ℕ) → has q (suc (suc h)) (fill n l (join w) r) + one b.no q ≡ one n q + (has_in (has q (suc h)) l + (has q (suc h) a + (has q (suc h) b + has_in (has q (suc h)) r)))
    merge_counts q = omega (arith, has_fill (has q (suc h)) q n l (join w) r, has_join (has q h) q w)

    pub merge_long : length after_merge ≡ length ns
    merge_long = K.long

    pub merge_step : Hole after_merge c (fill n l (join w) r) (returned w.right.no free)
    merge_step =
        let parts = fill_parts (Stands after_merge (suc h)) n l (join w) r (all_kept ns after_merge _ _ K (suc h) l (λ q. omega (arith, T.once q)) T.lefts) joined_stands (all_kept ns after_merge _ _ K (suc h) r (λ q. omega (arith, T.once q)) T.rights) in
        record {
          few = rw K.long T.few;
          way = way_kept ns after_merge _ _ K c n (λ q. omega (arith, T.once q)) T.way;
          tree = (merged_parent ∙ sym (content_fill (suc h) n l (join w) r), parts.0, parts.1);
          chain = merge_chain ns T.links n i a.no b.no siblings free (frees hd ef en) (apart hd ef en);
          rises = returned_rises b.no free (λ q. omega (arith, T.once q)) T.rises;
          links = K.links;
          root = K.roots (root_of c n) (omega (arith, T.once (root_of c n), root_in c n)) root_parent ∙ T.root;
          once = λ q. omega (arith, T.once q, merge_counts q, returned_times b.no q free);
          within = λ q g. rw K.long (T.within q (omega (arith, merge_counts q, returned_times b.no q free)));
          all = λ q g. omega (arith, T.all q (rw K.long at g), merge_counts q, returned_times b.no q free);
        }

  -- ---- a move: m pairs to the left, the next to the parent, the rest to the right

  module _ (m : ℕ) (o : m < length (join w).rest) where
    abbrev pub after_move : List NodeVal
    after_move = move_nodes ns n (length l) w.left.no w.right.no m

    abbrev pub halves : Twin (Tree (suc h))
    halves = cut m w.right.no w.pair (join w)

    pub Kv : Kept ns after_move (n ∷ a.no ∷ b.no ∷ []) []
    Kv = move_kept ns T.links n i a.no b.no siblings m

    abbrev up : Item ℕ
    up = record { pair = halves.pair; edge = b.no }

    moved_parent : body_of (nth after_move n) ≡ content_of (suc h) (fill n Ls a.no (record { pair = halves.pair; edge = b.no } ∷ Rs))
    moved_parent =
        move_parent ns T.links n i a.no b.no siblings m
        ∙ rw (joined_pairs_lem, between (root_no h) m J w.pair o, parent_is.0, parent_is.1, parent_is.2, ← i_is)
        (ap₂ {C = Body} (λ (s : List Pair) (t : List ℕ). record { state = internal; pairs = s; edges = fill_first Ls a.no ∷ t }) (swapped n Ls a.no pair_in y up Rs) (alike n Ls a.no edge_in y up Rs refl))

    moved_low : body_of (nth after_move a.no) ≡ content h (root_no h a.first) (numbered h (take m J))
    moved_low =
        move_left ns T.links n i a.no b.no siblings m
        ∙ rw (low_is.0, joined_pairs_lem, joined_edges_lem, add-one, map_take _ m J) (low_content m h (root_no h a.first) (numbered h J))

    moved_high : body_of (nth after_move b.no) ≡ content h (root_no h (edge_of a.first (drop m J))) (numbered h (tail (drop m J)))
    moved_high =
        move_right ns T.links n i a.no b.no siblings m
        ∙ rw (high_is.0, joined_pairs_lem, joined_edges_lem, add-one, num_edge (root_no h) a.first (drop m J), map_tail _ (drop m J), map_drop _ m J) (high_content m h (root_no h a.first) (numbered h J) (rw (length-map J) o))

    first_stands : Stands after_move h a.first
    first_stands = stands_kept ns after_move _ _ Kv h a.first (λ q. omega (arith, T.once q)) T.low.1

    rest_stands : AllIn (Stands after_move h) J
    rest_stands =
        join_all (Stands after_move h) w (all_kept ns after_move _ _ Kv h a.rest (λ q. omega (arith, T.once q)) T.low.2)
        (stands_kept ns after_move _ _ Kv h b.first (λ q. omega (arith, T.once q)) T.high.1)
        (all_kept ns after_move _ _ Kv h b.rest (λ q. omega (arith, T.once q)) T.high.2)

    move_counts : (q : ℕ) → has q (suc h) halves.left + has q (suc h) halves.right ≡ has q (suc h) a + has q (suc h) b
    move_counts q = omega (arith, has_cut (has q h) q m b.no w.pair (join w) o, has_join (has q h) q w)

    pub move_long : length after_move ≡ length ns
    move_long = Kv.long

    pub move_step : Beside after_move c n l halves r free
    move_step =
        let k = cut_all (Stands after_move h) m b.no w.pair (join w) o rest_stands in
        record {
          few = rw Kv.long T.few;
          way = way_kept ns after_move _ _ Kv c n (λ q. omega (arith, T.once q)) T.way;
          body = moved_parent;
          lefts = all_kept ns after_move _ _ Kv (suc h) l (λ q. omega (arith, T.once q)) T.lefts;
          low = (moved_low, first_stands, k.0);
          high = (moved_high, k.1, k.2);
          rights = all_kept ns after_move _ _ Kv (suc h) r (λ q. omega (arith, T.once q)) T.rights;
          chain = chain_kept ns after_move _ _ Kv free (λ q. omega (arith, T.once q)) T.chain;
          rises = T.rises;
          links = Kv.links;
          root = Kv.roots (root_of c n) refl root_parent ∙ T.root;
          once = λ q. omega (arith, T.once q, move_counts q);
          within = λ q g. rw Kv.long (T.within q (omega (arith, move_counts q)));
          all = λ q g. omega (arith, T.all q (rw Kv.long at g), move_counts q);
        }

-- ---- a root without pairs is taken off

module _ {h : ℕ} (t : Tree (suc (suc h))) (free : List ℕ) {ns : List NodeVal} (H : Hole ns (top {h = suc (suc h)}) t free) (bare : t.rest ≡ []) (hd : List ℕ) (er : header.root_of hd ≡ t.no) (ef : first_free hd ≡ first_or free) (en : free_nodes hd ≡ length free) where
  no_in : t.no < length ns
  no_in = H.within t.no (omega (arith, one_self t.no))

  only : (nth ns t.no).edges ≡ t.first.no ∷ []
  only = (body_parts (nth ns t.no) _ H.tree.0).2 ∙ rw bare refl

  pub only_child_lem : header.only_child hd ns ≡ t.first.no
  only_child_lem = rw (er, only) refl

  frees_here : Frees hd ns free
  frees_here = hole_frees (top {h = suc (suc h)}) t free H hd ef en

  two_apart : (q : ℕ) → times q free + times q (t.no ∷ t.first.no ∷ []) ≤ 1
  two_apart q = omega (arith, H.once q)

  pub pop_ready : 1 ≤ header.height_of hd → length free < length ns → PopReady hd ns free
  pop_ready k u =
      record {
        root = rw er no_in;
        no_pairs = rw er ((body_parts (nth ns t.no) _ H.tree.0).1 ∙ rw bare refl);
        one_edge = rw (er, only) refl;
        child = rw (er, only) (H.within t.first.no (omega (arith, one_self t.first.no)));
        height = k;
        out = rw er (omega (arith, H.once t.no, one_self t.no));
        used = u;
        frees = pop_frees hd ns H.links H.few t.first.no (rw er no_in) (rw er only) (rw er (link_parent H.root)) free frees_here (rw er two_apart);
      }

  pub Kp : Kept ns (pop_nodes hd free ns) (t.no ∷ free) (t.no ∷ t.first.no ∷ free)
  Kp = rw er at (pop_kept hd ns H.links H.few t.first.no (rw er no_in) (rw er only) (rw er (link_parent H.root)) free frees_here (rw er two_apart))

  pub pop_long : length (pop_nodes hd free ns) ≡ length ns
  pop_long = Kp.long

  bare_has : (q : ℕ) → has_in (has q (suc h)) t.rest ≡ 0
  bare_has q = rw bare refl

  pub pop_step : Closed (pop_nodes hd free ns) (record { height = suc h; root = t.first }) (returned t.no free)
  pop_step = record {
    few = rw Kp.long H.few;
    way = tt;
    tree = stands_kept ns (pop_nodes hd free ns) _ _ Kp (suc h) t.first (λ q. omega (arith, H.once q)) H.tree.1;
    chain = rw er at (pop_chain hd ns H.links H.few t.first.no (rw er no_in) (rw er only) (rw er (link_parent H.root)) free frees_here (rw er two_apart));
    rises = returned_rises t.no free (λ q. omega (arith, H.once q)) H.rises;
    links = Kp.links;
    root = pop_root hd ns H.links H.few t.first.no (rw er no_in) (rw er only) (rw er (link_parent H.root)) free frees_here (rw er two_apart);
    once = λ q. omega (arith, H.once q, returned_times t.no q free, bare_has q);
    within = λ q k. rw Kp.long (H.within q (omega (arith, returned_times t.no q free)));
    all = λ q k. omega (arith, H.all q (rw Kp.long at k), returned_times t.no q free, bare_has q);
  }
