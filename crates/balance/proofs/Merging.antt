-- The stages of a merge, as changes of the list of nodes.
-- Assumes nothing.
use Prim.Native.Nat.{ℕ, ◌+◌, ◌≤◌, ◌<◌}
use mathlib.Core.Path.{◌≡◌, refl, ap, ◌∙◌}
use mathlib.Core.Logic.{⊎_elim}
use mathlib.Core.List.{List, [], ◌∷◌, ◌++◌, append_assoc}
use native.Mathlib.Omega.{arith}
use lib.ListN.{length, take, drop, set, length-append, drop_of_length-le}
use lib.Seq.{take_all}
use Rattle.model.specs.Lists.{insert_at}
use Rattle.model.specs.Tree.{Pair}
use Rattle.model.specs.Layout.{most, NodeVal, nth, Arena}
use Rattle.slices.specs.Words.{remove_at}
use Rattle.slices.proofs.Laws.{insert_last, remove_length}
use Rattle.node.specs.Reading.{pair_at}
use Rattle.store.specs.Links.{with_body, with_edges, relink_from, LinkReady, ReturnReady}
use Rattle.store.proofs.All.{all_append, all_remove}
use Rattle.store.proofs.Relink.{from_length, from_edges, from_pairs}
use Rattle.leaf.specs.Pairs.{with_pairs, insert_pair, remove_pair, first_pairs, RoomAt, PairAt, FirstReady}
use Rattle.balance.specs.Moves.{Beside, three, joined_pairs, merged_bodies, merged_links, MergeReady}
use Rattle.balance.proofs.Shapes.{with_either, edges_of_l, edges_of_r}
use Rattle.balance.proofs.Three.{three_long, three_p, three_l, three_r, node_p, node_l, node_r, both_lr, on_p, on_l, on_lr, from_p}

-- ---- the stages: the parent's pair is out, it is in on the left, the pairs are moved, the parent's edge is out

module _ (ns : List NodeVal) (p i l r : ℕ) where
  abbrev P₁ : NodeVal
  P₁ = with_pairs (nth ns p) (remove_at (nth ns p).pairs i)

  abbrev P₂ : NodeVal
  P₂ = with_edges P₁ (remove_at (nth ns p).edges (i + 1))

  abbrev L₁ : NodeVal
  L₁ = with_pairs (nth ns l) ((nth ns l).pairs ++ pair_at (nth ns p).pairs i ∷ [])

  abbrev L₂ : NodeVal
  L₂ = with_pairs (nth ns l) (joined_pairs ns p i l r)

  abbrev R₂ : NodeVal
  R₂ = with_pairs (nth ns r) []

  abbrev pub s₁ : List NodeVal
  s₁ = three ns p l r P₁ (nth ns l) (nth ns r)

  abbrev pub s₂ : List NodeVal
  s₂ = three ns p l r P₁ L₁ (nth ns r)

  abbrev pub s₃ : List NodeVal
  s₃ = three ns p l r P₁ L₂ R₂

  abbrev pub s₄ : List NodeVal
  s₄ = three ns p l r P₂ L₂ R₂

-- ---- each is what the step before leaves, and is ready for the step after

module _ {h : List ℕ} {ns : List NodeVal} {free : List ℕ} {p i l r : ℕ} (q : MergeReady h ns free p i l r) where
  abbrev B : Beside ns p i l r
  B = q.beside

  abbrev P : NodeVal
  P = nth ns p

  abbrev L : NodeVal
  L = nth ns l

  abbrev R : NodeVal
  R = nth ns r

  abbrev x : Pair
  x = pair_at P.pairs i

  pub to_s₁ : remove_pair ns p i ≡ (s₁ ns p i l r)
  to_s₁ = from_p B (λ (v : NodeVal). with_pairs v (remove_at v.pairs i))

  pub to_s₂ : (k : ℕ) (y : Pair) → k ≡ length L.pairs → y ≡ x → insert_pair (s₁ ns p i l r) l k y ≡ (s₂ ns p i l r)
  to_s₂ k y e d = rw (e, d) (on_l B (P₁ ns p i l r) L R (λ (v : NodeVal). with_pairs v (insert_at v.pairs (length L.pairs) x)) ∙ ap (λ (t : List Pair). three ns p l r (P₁ ns p i l r) (with_pairs L t) R) (insert_last L.pairs x))

  pub to_s₃ : (c : ℕ) → c ≡ length R.pairs → first_pairs (s₂ ns p i l r) l r c ≡ (s₃ ns p i l r)
  to_s₃ c e =
      on_lr B (P₁ ns p i l r) (L₁ ns p i l r) R (λ (v u : NodeVal). with_pairs v (v.pairs ++ take c u.pairs)) (λ (v u : NodeVal). with_pairs u (drop c u.pairs))
      ∙ rw (take_all c R.pairs (omega arith), drop_of_length-le R.pairs {i = c} (omega arith), append_assoc L.pairs (x ∷ []) R.pairs) refl

  pub to_s₄ : set (s₃ ns p i l r) p (with_edges (nth (s₃ ns p i l r) p) (remove_at (nth (s₃ ns p i l r) p).edges (i + 1))) ≡ (s₄ ns p i l r)
  to_s₄ = on_p B (P₁ ns p i l r) (L₂ ns p i l r) (R₂ ns p i l r) (λ (v : NodeVal). with_edges v (remove_at v.edges (i + 1)))

  pub to_bodies : (c : ℕ) → c ≡ length R.edges → set (set (s₄ ns p i l r) l (with_edges (nth (s₄ ns p i l r) l) ((nth (s₄ ns p i l r) l).edges ++ take c (nth (s₄ ns p i l r) r).edges))) r (with_edges (nth (s₄ ns p i l r) r) (drop c (nth (s₄ ns p i l r) r).edges)) ≡ merged_bodies ns p i l r
  to_bodies c e =
      on_lr B (P₂ ns p i l r) (L₂ ns p i l r) (R₂ ns p i l r) (λ (v u : NodeVal). with_edges v (v.edges ++ take c u.edges)) (λ (v u : NodeVal). with_edges u (drop c u.edges))
      ∙ rw (take_all c R.edges (omega arith), drop_of_length-le R.edges {i = c} (omega arith)) refl

  pub ready₁ : PairAt ns p i
  ready₁ = record { node = B.parent; place = B.place }

  pub ready₂ : (k : ℕ) → k ≡ length L.pairs → RoomAt (s₁ ns p i l r) l k
  ready₂ k e =
      let v = three_l B (P₁ ns p i l r) L R in
      record { node = node_l B (P₁ ns p i l r) L R; room = rw v (omega (arith, q.fits)); place = rw v (omega arith) }

  pub ready₃ : (c : ℕ) → c ≡ length R.pairs → FirstReady (s₂ ns p i l r) l r c
  ready₃ c e =
      let n = length-append L.pairs (x ∷ []) in
      record {
        two = both_lr B (P₁ ns p i l r) (L₁ ns p i l r) R;
        place = rw (three_r B (P₁ ns p i l r) (L₁ ns p i l r) R) (omega arith);
        fits = rw (three_l B (P₁ ns p i l r) (L₁ ns p i l r) R) (omega (arith, q.fits));
      }

  pub node₃ : p < length (s₃ ns p i l r)
  node₃ = node_p B (P₁ ns p i l r) (L₂ ns p i l r) (R₂ ns p i l r)

  pub edges₃ : (nth (s₃ ns p i l r) p).edges ≡ P.edges
  edges₃ = ap (λ (v : NodeVal). v.edges) (three_p B (P₁ ns p i l r) (L₂ ns p i l r) (R₂ ns p i l r))

  pub node₄_l : l < length (s₄ ns p i l r)
  node₄_l = node_l B (P₂ ns p i l r) (L₂ ns p i l r) (R₂ ns p i l r)

  pub node₄_r : r < length (s₄ ns p i l r)
  node₄_r = node_r B (P₂ ns p i l r) (L₂ ns p i l r) (R₂ ns p i l r)

  pub edges₄_l : (nth (s₄ ns p i l r) l).edges ≡ L.edges
  edges₄_l = ap (λ (v : NodeVal). v.edges) (three_l B (P₂ ns p i l r) (L₂ ns p i l r) (R₂ ns p i l r))

  pub edges₄_r : (nth (s₄ ns p i l r) r).edges ≡ R.edges
  edges₄_r = ap (λ (v : NodeVal). v.edges) (three_r B (P₂ ns p i l r) (L₂ ns p i l r) (R₂ ns p i l r))

  abbrev E : NodeVal
  E = with_body L (joined_pairs ns p i l r) (L.edges ++ R.edges)

  abbrev F : NodeVal
  F = with_body R [] []

  -- all edges fit in one node
  pub links_fit : length L.edges + length R.edges ≤ most + 1
  links_fit =
      let e = edges_of_l B in
      let d = edges_of_r B in
      ⊎_elim
      (λ f. omega (arith, f (length L.pairs + 1), f (length R.pairs + 1), q.fits))
      (λ f. omega (arith, f (length L.pairs + 1), f (length R.pairs + 1)))
      (with_either L.state)

  pub links_l : (m : ℕ) → m ≡ length L.edges + length R.edges → LinkReady (merged_bodies ns p i l r) l m
  links_l m e =
      let v = three_l B (P₂ ns p i l r) E F in
      record {
        node = node_l B (P₂ ns p i l r) E F;
        count = rw (v, length-append L.edges R.edges) e;
        lead = rw (three_long B (P₂ ns p i l r) E F, v) (all_append (λ (t : ℕ). t < length ns) L.edges R.edges B.left.lead B.right.lead);
      }

  pub links_p : (m : ℕ) → m ≡ length P.pairs → LinkReady (relink_from (merged_bodies ns p i l r) l (length L.edges)) p m
  links_p m e =
      let s = merged_bodies ns p i l r in
      let g = from_length s l (length L.edges) ∙ three_long B (P₂ ns p i l r) E F in
      let v = from_edges s l (length L.edges) p ∙ ap (λ (t : NodeVal). t.edges) (three_p B (P₂ ns p i l r) E F) in
      let k = B.branches.edges_are in
      record {
        node = rw g B.parent;
        count = rw v (omega (arith, B.place, remove_length P.edges (i + 1) (omega (arith, B.place))));
        lead = rw (g, v) (all_remove (λ (t : ℕ). t < length ns) P.edges (i + 1) B.branches.lead);
      }

  pub to_return : ReturnReady h (merged_links ns p i l r) free r
  to_return =
      let s = merged_bodies ns p i l r in
      let k = length L.edges in
      let g = from_length (relink_from s l k) p (i + 1) ∙ from_length s l k ∙ three_long B (P₂ ns p i l r) E F in
      let v = three_r B (P₂ ns p i l r) E F in
      record {
        node = rw g B.right.node;
        no_pairs = from_pairs (relink_from s l k) p (i + 1) r ∙ from_pairs s l k r ∙ ap (λ (t : NodeVal). t.pairs) v;
        no_edges = from_edges (relink_from s l k) p (i + 1) r ∙ from_edges s l k r ∙ ap (λ (t : NodeVal). t.edges) v;
        out = q.out;
        used = rw g q.used;
        frees = q.frees;
      }

-- what a step of the merge leaves: where w is an arena that is ready, w' is one with the nodes f
abbrev pub Leaves : List ℕ → List ℕ → ℕ → ℕ → ℕ → ℕ → ((h : List ℕ) (ns : List NodeVal) → List NodeVal) → Type 0
Leaves w w' p i l r f = (h : List ℕ) (ns : List NodeVal) (free : List ℕ) → MergeReady h ns free p i l r → Arena w h ns → Arena w' h (f h ns)
