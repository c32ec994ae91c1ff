-- The stages of an insertion, a split, a push and a pop, as changes of the list of nodes.
-- Assumes nothing.
use Prim.Native.Nat.{ℕ, ◌+◌, ◌-◌, ◌≤◌, ◌<◌}
use mathlib.Core.Path.{◌≡◌, refl, sym, ap, ◌∙◌}
use mathlib.Core.List.{List, [], ◌∷◌, ◌++◌, append-nil}
use native.Mathlib.Omega.{arith}
use lib.Dec.{lit<}
use lib.ListN.{length, take, drop, get_or, set, length-set, length-drop}
use lib.Seq.{get_or-set_same, get_or-set_other, set-set, set_comm}
use Rattle.model.specs.Lists.{insert_at}
use Rattle.model.specs.Tree.{Pair}
use Rattle.model.specs.Layout.{none, most, header_size, root_word, height_word, length_word, internal, word_at, NodeVal, nth, blank, Arena}
use Rattle.slices.specs.Words.{remove_at}
use Rattle.slices.proofs.Laws.{insert_length}
use Rattle.node.specs.Reading.{Within}
use Rattle.node.proofs.Reading.{within, len_is}
use Rattle.model.specs.Nodes.{taken}
use Rattle.store.specs.Links.{Body, with_body, with_edges, fresh, take_node, link, LinkReady, ReturnReady, TakeReady}
use Rattle.store.proofs.All.{all_insert, all_drop}
use Rattle.store.proofs.Relink.{link_body}
use Rattle.store.proofs.Chain.{head_is, long, take_in}
use Rattle.leaf.specs.Pairs.{with_pairs, insert_pair}
use Rattle.leaf.specs.Split.{cut_bodies, CutReady}
use Rattle.leaf.proofs.Cutting.{cut_pairs, new_other}
use Rattle.internal.specs.Inner.{Branches, FitReady, fit_bodies, PushReady, root_of, height_of, PopReady, only_child}

-- ---- a pair and an edge put in

module _ {ns : List NodeVal} {n i c : ℕ} (q : FitReady ns n i c) where
  -- what is asked, in words
  pub fit_here : {w h : List ℕ} → Arena w h ns → Within w n × (word_at w n length_word ≡ length (nth ns n).pairs) × (length (nth ns n).pairs < most) × (i ≤ length (nth ns n).pairs)
  fit_here a = (within a n q.room.node, len_is a n q.room.node, q.room.room, q.room.place)

  module _ (p : Pair) where
    with_pair : nth (insert_pair ns n i p) n ≡ with_pairs (nth ns n) (insert_at (nth ns n).pairs i p)
    with_pair = get_or-set_same ns n _ blank q.room.node

    pub fit_node : n < length (insert_pair ns n i p)
    fit_node = rw length-set q.room.node

    pub fit_edges : (nth (insert_pair ns n i p) n).edges ≡ (nth ns n).edges
    fit_edges = ap (λ (v : NodeVal). v.edges) with_pair

    pub fit_bodies_lem : set (insert_pair ns n i p) n (with_edges (nth (insert_pair ns n i p) n) (insert_at (nth (insert_pair ns n i p) n).edges (i + 1) c)) ≡ fit_bodies ns n i p c
    fit_bodies_lem = rw with_pair (set-set ns n _ _)

    pub fit_links : (m : ℕ) → m ≡ length (nth ns n).pairs + 1 + 1 → LinkReady (fit_bodies ns n i p c) n m
    fit_links m e =
        let v = get_or-set_same ns n (with_body (nth ns n) (insert_at (nth ns n).pairs i p) (insert_at (nth ns n).edges (i + 1) c)) blank q.room.node in
        let f = q.branches.edges_are in
        record {
          node = rw length-set q.room.node;
          count = rw v (omega (arith, insert_length (nth ns n).edges (i + 1) c (omega (arith, q.room.place))));
          lead = rw (length-set, v) (all_insert (λ (t : ℕ). t < length ns) (nth ns n).edges (i + 1) c q.child q.branches.lead);
        }

-- ---- a split

module _ {h : List ℕ} {ns : List NodeVal} {free : List ℕ} {n i : ℕ} (r : CutReady h ns free n i) (b : Branches ns n) where
  abbrev m : ℕ
  m = taken free

  abbrev cut : List NodeVal
  cut = cut_pairs ns n m i internal

  cut_n : nth cut n ≡ with_pairs (nth ns n) (take i (nth ns n).pairs)
  cut_n = get_or-set_other (set ns n _) m n _ blank (new_other h ns free n i internal r) ∙ get_or-set_same ns n _ blank r.node

  cut_m : nth cut m ≡ with_body (fresh internal) (drop (i + 1) (nth ns n).pairs) []
  cut_m = get_or-set_same (set ns n _) m _ blank (rw length-set (take_in r.take))

  pub cut_node_n : n < length cut
  cut_node_n = rw (length-set, length-set) r.node

  pub cut_node_m : m < length cut
  cut_node_m = rw (length-set, length-set) (take_in r.take)

  pub cut_edges_n : (nth cut n).edges ≡ (nth ns n).edges
  cut_edges_n = ap (λ (v : NodeVal). v.edges) cut_n

  pub cut_edges_m : (nth cut m).edges ≡ []
  cut_edges_m = ap (λ (v : NodeVal). v.edges) cut_m

  pub cut_bodies_lem : set (set cut n (with_edges (nth cut n) (take (i + 1) (nth cut n).edges))) m (with_edges (nth cut m) (drop (i + 1) (nth cut n).edges ++ (nth cut m).edges)) ≡ cut_bodies ns n m i
  cut_bodies_lem =
      let x = with_pairs (nth ns n) (take i (nth ns n).pairs) in
      let y = with_body (fresh internal) (drop (i + 1) (nth ns n).pairs) [] in
      let x' = with_edges x (take (i + 1) (nth ns n).edges) in
      let y' = with_edges y (drop (i + 1) (nth ns n).edges) in
      let two : set (set (set (set ns n x) m y) n x') m y' ≡ set (set ns n x') m y' =
      ap (λ (t : List NodeVal). set t m y') (set_comm (set ns n x) m n y x' (λ z. new_other h ns free n i internal r (sym z)) ∙ ap (λ (t : List NodeVal). set t m y) (set-set ns n x x'))
      ∙ set-set (set ns n x') m y y' in
      rw (cut_n, cut_m, append-nil (drop (i + 1) (nth ns n).edges)) (two ∙ ap (λ (s : ℕ). set (set ns n x') m (with_body (fresh s) (drop (i + 1) (nth ns n).pairs) (drop (i + 1) (nth ns n).edges))) (sym b.state_is))

  pub cut_links : (k : ℕ) → k ≡ length (nth ns n).pairs - i → LinkReady (cut_bodies ns n m i) m k
  cut_links k e =
      let v = get_or-set_same (set ns n (with_body (nth ns n) (take i (nth ns n).pairs) (take (i + 1) (nth ns n).edges))) m (with_body (fresh (nth ns n).state) (drop (i + 1) (nth ns n).pairs) (drop (i + 1) (nth ns n).edges)) blank (rw length-set (take_in r.take)) in
      record {
        node = rw (length-set, length-set) (take_in r.take);
        count = rw v (simp length-drop (omega (arith, b.edges_are)));
        lead = rw (length-set, length-set, v) (all_drop (λ (t : ℕ). t < length ns) (i + 1) (nth ns n).edges b.lead);
      }

-- ---- a level put on

module _ {h : List ℕ} {ns : List NodeVal} {free : List ℕ} (q : PushReady h ns free) where
  pub push_here : {w : List ℕ} → Arena w h ns → (header_size ≤ length w) × Within w (get_or w root_word 0) × (get_or w root_word 0 ≡ root_of h) × (get_or w height_word 0 ≡ height_of h)
  push_here a =
      let e = head_is a root_word (lit< tt) in
      (long a, rw e (within a _ q.root), e, head_is a height_word (lit< tt))

module _ {h : List ℕ} {ns : List NodeVal} {free : List ℕ} (q : TakeReady h ns free) where
  pub top_edges : (nth (take_node ns free internal) (taken free)).edges ≡ []
  top_edges = ap (λ (v : NodeVal). v.edges) (get_or-set_same ns (taken free) (fresh internal) blank (take_in q))

  -- the new node with its edge
  pub top_body : (c : ℕ) → set (take_node ns free internal) (taken free) (with_edges (nth (take_node ns free internal) (taken free)) (insert_at (nth (take_node ns free internal) (taken free)).edges 0 c)) ≡ set ns (taken free) (with_edges (fresh internal) (c ∷ []))
  unfolding insert_at
  top_body c = rw (get_or-set_same ns (taken free) (fresh internal) blank (take_in q)) (set-set ns (taken free) (fresh internal) _)

-- ---- a level taken off

module _ {h : List ℕ} {ns : List NodeVal} {free : List ℕ} (q : PopReady h ns free) where
  abbrev top : ℕ
  top = root_of h

  pub pop_here : {w : List ℕ} → Arena w h ns → (header_size ≤ length w) × Within w (get_or w root_word 0) × (get_or w root_word 0 ≡ root_of h) × (get_or w height_word 0 ≡ height_of h)
  pop_here a =
      let e = head_is a root_word (lit< tt) in
      (long a, rw e (within a _ q.root), e, head_is a height_word (lit< tt))

  bare_edges : remove_at (nth ns top).edges 0 ≡ []
  unfolding remove_at
  bare_edges = go (nth ns top).edges q.one_edge
    where
      go : (l : List ℕ) → length l ≡ 1 → drop 1 l ≡ []
      go [] e = refl
      go (x ∷ []) e = refl
      go (x ∷ (y ∷ l)) e = absurd (omega arith)

  pub bare : set ns top (with_edges (nth ns top) (remove_at (nth ns top).edges 0)) ≡ set ns top (with_edges (nth ns top) [])
  bare = rw bare_edges refl

  pub to_return : ReturnReady h (link (set ns top (with_edges (nth ns top) [])) (only_child h ns) none 0) free top
  to_return =
      let s = set ns top (with_edges (nth ns top) []) in
      let v = get_or-set_same ns top (with_edges (nth ns top) []) blank q.root in
      let b = link_body s (only_child h ns) none 0 top in
      let l : length (link s (only_child h ns) none 0) ≡ length ns = length-set s (only_child h ns) _ ∙ length-set ns top _ in
      record {
        node = rw l q.root;
        no_pairs = ap (λ (t : Body). t.pairs) b ∙ ap (λ (t : NodeVal). t.pairs) v ∙ q.no_pairs;
        no_edges = ap (λ (t : Body). t.edges) b ∙ ap (λ (t : NodeVal). t.edges) v;
        out = q.out;
        used = rw l q.used;
        frees = q.frees;
      }
