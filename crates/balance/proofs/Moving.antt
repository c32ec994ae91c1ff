-- Pairs and edges moved from one child to the other, whichever way: the stages that both ways share.
-- Assumes nothing.
use Prim.Native.Nat.{ℕ, ◌+◌, ◌≤◌, ◌<◌}
use mathlib.Core.Path.{◌≡◌, refl, ap, ◌∙◌}
use mathlib.Core.Logic.{⊎_elim}
use mathlib.Core.List.{List, [], ◌∷◌}
use native.Mathlib.Omega.{arith}
use lib.ListN.{length, take, drop, set}
use Rattle.model.specs.Lists.{All}
use Rattle.model.specs.Layout.{NodeVal, nth, Arena}
use Rattle.node.specs.Reading.{pair_at}
use Rattle.store.specs.Links.{with_edges, relink_from, LinkReady}
use Rattle.store.proofs.All.{all_append, all_take, all_drop}
use Rattle.store.proofs.Relink.{from_length, from_edges, from_none}
use Rattle.leaf.specs.Pairs.{with_pairs}
use Rattle.balance.specs.Moves.{edges_with, Beside, three, joined_pairs, joined_edges, moved_bodies, move_nodes, StealReady}
use Rattle.balance.proofs.Shapes.{with_either, edges_of_l, edges_of_r}
use Rattle.balance.proofs.Three.{three_long, three_l, three_r, node_l, node_r, on_lr}

nil_of : (l : List ℕ) → length l ≡ 0 → l ≡ []
nil_of [] e = refl
nil_of (x ∷ l) e = absurd (omega arith)

-- ---- where m pairs are left, however they came there: the pairs are moved, and no edges yet

module _ (ns : List NodeVal) (p i l r m : ℕ) where
  abbrev pub P₁ : NodeVal
  P₁ = with_pairs (nth ns p) (set (nth ns p).pairs i (pair_at (joined_pairs ns p i l r) m))

  abbrev pub L₂ : NodeVal
  L₂ = with_pairs (nth ns l) (take m (joined_pairs ns p i l r))

  abbrev pub R₂ : NodeVal
  R₂ = with_pairs (nth ns r) (drop (m + 1) (joined_pairs ns p i l r))

  abbrev pub moved_pairs : List NodeVal
  moved_pairs = three ns p l r P₁ L₂ R₂

module _ {ns : List NodeVal} {p i l r : ℕ} (B : Beside ns p i l r) (m : ℕ) where
  abbrev pub t : List NodeVal
  t = moved_pairs ns p i l r m

  pub node_l₄ : l < length t
  node_l₄ = node_l B (P₁ ns p i l r m) (L₂ ns p i l r m) (R₂ ns p i l r m)

  pub node_r₄ : r < length t
  node_r₄ = node_r B (P₁ ns p i l r m) (L₂ ns p i l r m) (R₂ ns p i l r m)

  pub edges_l₄ : (nth t l).edges ≡ (nth ns l).edges
  edges_l₄ = ap (λ (v : NodeVal). v.edges) (three_l B (P₁ ns p i l r m) (L₂ ns p i l r m) (R₂ ns p i l r m))

  pub edges_r₄ : (nth t r).edges ≡ (nth ns r).edges
  edges_r₄ = ap (λ (v : NodeVal). v.edges) (three_r B (P₁ ns p i l r m) (L₂ ns p i l r m) (R₂ ns p i l r m))

  -- the edges are moved; G and H say how
  pub to_bodies : (G H : List ℕ → List ℕ → List ℕ) → G (nth ns l).edges (nth ns r).edges ≡ take (m + 1) (joined_edges ns l r) → H (nth ns l).edges (nth ns r).edges ≡ drop (m + 1) (joined_edges ns l r) → set (set t l (with_edges (nth t l) (G (nth t l).edges (nth t r).edges))) r (with_edges (nth t r) (H (nth t l).edges (nth t r).edges)) ≡ moved_bodies ns p i l r m
  to_bodies G H e d =
      on_lr B (P₁ ns p i l r m) (L₂ ns p i l r m) (R₂ ns p i l r m) (λ (v u : NodeVal). with_edges v (G v.edges u.edges)) (λ (v u : NodeVal). with_edges u (H v.edges u.edges))
      ∙ rw (e, d) refl

  abbrev E : NodeVal
  E = with_edges (L₂ ns p i l r m) (take (m + 1) (joined_edges ns l r))

  abbrev F : NodeVal
  F = with_edges (R₂ ns p i l r m) (drop (m + 1) (joined_edges ns l r))

  lead : All (λ (c : ℕ). c < length ns) (joined_edges ns l r)
  lead = all_append (λ (c : ℕ). c < length ns) (nth ns l).edges (nth ns r).edges B.left.lead B.right.lead

  pub links_l : (k : ℕ) → k ≡ length (take (m + 1) (joined_edges ns l r)) → LinkReady (moved_bodies ns p i l r m) l k
  links_l k e =
      let v = three_l B (P₁ ns p i l r m) E F in
      record {
        node = node_l B (P₁ ns p i l r m) E F;
        count = rw v e;
        lead = rw (three_long B (P₁ ns p i l r m) E F, v) (all_take (λ (c : ℕ). c < length ns) (m + 1) (joined_edges ns l r) lead);
      }

  pub links_r : (k : ℕ) → k ≡ length (drop (m + 1) (joined_edges ns l r)) → LinkReady (moved_bodies ns p i l r m) r k
  links_r k e =
      let v = three_r B (P₁ ns p i l r m) E F in
      record {
        node = node_r B (P₁ ns p i l r m) E F;
        count = rw v e;
        lead = rw (three_long B (P₁ ns p i l r m) E F, v) (all_drop (λ (c : ℕ). c < length ns) (m + 1) (joined_edges ns l r) lead);
      }

  -- also where those of l are linked already
  pub links_then : (k j : ℕ) → k ≡ length (drop (m + 1) (joined_edges ns l r)) → LinkReady (relink_from (moved_bodies ns p i l r m) l j) r k
  links_then k j e =
      let s = moved_bodies ns p i l r m in
      let x = links_r k e in
      record {
        node = rw (from_length s l j) x.node;
        count = rw (from_edges s l j r) x.count;
        lead = rw (from_length s l j, from_edges s l j r) x.lead;
      }

  -- of l there are none to link where it has fewer edges than before
  pub none_left : length (take (m + 1) (joined_edges ns l r)) ≤ length (nth ns l).edges → relink_from (moved_bodies ns p i l r m) r 0 ≡ move_nodes ns p i l r m
  unfolding move_nodes
  none_left f =
      let s = moved_bodies ns p i l r m in
      let v = three_l B (P₁ ns p i l r m) E F in
      rw (from_none s l (length (nth ns l).edges) (rw v f)) refl

  -- what holds of the edges of internal nodes, and of no edges, holds of the edges of both children
  pub by_edges : (Q : List ℕ → List ℕ → Type 0) → (((k : ℕ) → edges_with (nth ns l).state k ≡ k) → Q (nth ns l).edges (nth ns r).edges) → Q [] [] → Q (nth ns l).edges (nth ns r).edges
  by_edges Q inner none =
      ⊎_elim
      inner
      (λ f.
      let n = nil_of (nth ns l).edges (edges_of_l B ∙ f (length (nth ns l).pairs + 1)) in
      let o = nil_of (nth ns r).edges (edges_of_r B ∙ f (length (nth ns r).pairs + 1)) in
      rw (n, o) none)
      (with_either (nth ns l).state)

-- what a step of a move leaves: where w is an arena that is ready, w' is one with the nodes f
abbrev pub Leaves : List ℕ → List ℕ → ℕ → ℕ → ℕ → ℕ → ℕ → ℕ → ℕ → (List NodeVal → List NodeVal) → Type 0
Leaves w w' p i l r donor receiver c f = (h : List ℕ) (ns : List NodeVal) → StealReady ns p i l r donor receiver c → Arena w h ns → Arena w' h (f ns)
