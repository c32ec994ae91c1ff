-- Pairs moved from left to right: the last of c pairs goes up, the parent's comes down, the other pairs follow it.
-- Assumes nothing.
use Prim.Native.Nat.{ℕ, ◌+◌, ◌≤◌, ◌<◌}
use mathlib.Core.Path.{◌≡◌, refl, sym, ◌∙◌}
use mathlib.Core.Logic.{⊎_elim}
use mathlib.Core.List.{List, ◌∷◌, ◌++◌}
use native.Mathlib.Omega.{arith}
use lib.ListN.{length, take, drop, set, length-append, length-drop, get_or-append}
use lib.Seq.{take-append-le, drop-append-le, length-take-le, take-nil, drop-nil}
use Rattle.model.specs.Lists.{insert_at}
use Rattle.model.specs.Tree.{Pair}
use Rattle.model.specs.Layout.{most, NodeVal, nth}
use Rattle.slices.specs.Words.{remove_at}
use Rattle.slices.proofs.Laws.{remove_length, take_remove, drop_remove}
use Rattle.node.specs.Reading.{pair_at}
use Rattle.leaf.specs.Pairs.{with_pairs, insert_pair, replace_pair, remove_pair, last_pairs, RoomAt, PairAt, LastReady}
use Rattle.balance.specs.Moves.{edges_with, Beside, three, joined_pairs, joined_edges, StealReady}
use Rattle.balance.proofs.Shapes.{with_either, edges_of_l, edges_of_r}
use Rattle.balance.proofs.Three.{three_p, three_l, three_r, node_p, node_r, both_lr, on_p, on_r, on_lr, from_l}
use Rattle.balance.proofs.Moving.{P₁, moved_pairs, by_edges}

module _ {ns : List NodeVal} {p i l r c : ℕ} (q : StealReady ns p i l r l r c) (m : ℕ) (e : m + c ≡ length (nth ns l).pairs) where
  abbrev B : Beside ns p i l r
  B = q.beside

  abbrev P : NodeVal
  P = nth ns p

  abbrev L : NodeVal
  L = nth ns l

  abbrev R : NodeVal
  R = nth ns r

  abbrev x : Pair
  x = pair_at P.pairs i

  abbrev J : List Pair
  J = joined_pairs ns p i l r

  abbrev pub L₁ : NodeVal
  L₁ = with_pairs L (remove_at L.pairs m)

  abbrev pub R₁ : NodeVal
  R₁ = with_pairs R (x ∷ R.pairs)

  low : m < length L.pairs
  low = omega (arith, q.some)

  up_is : pair_at L.pairs m ≡ pair_at J m
  up_is = sym (get_or-append L.pairs (x ∷ R.pairs) _ m low)

  pub to_left₁ : remove_pair ns l m ≡ three ns p l r P L₁ R
  to_left₁ = from_l B (λ (v : NodeVal). with_pairs v (remove_at v.pairs m))

  pub to_left₂ : (y : Pair) → y ≡ pair_at L.pairs m → replace_pair (three ns p l r P L₁ R) p i y ≡ three ns p l r (P₁ ns p i l r m) L₁ R
  to_left₂ y d = rw (d, up_is) (on_p B P L₁ R (λ (v : NodeVal). with_pairs v (set v.pairs i (pair_at J m))))

  pub to_left₃ : (y : Pair) → y ≡ x → insert_pair (three ns p l r (P₁ ns p i l r m) L₁ R) r 0 y ≡ three ns p l r (P₁ ns p i l r m) L₁ R₁
  unfolding insert_at
  to_left₃ y d = rw d (on_r B (P₁ ns p i l r m) L₁ R (λ (v : NodeVal). with_pairs v (x ∷ v.pairs)))

  pub to_left₄ : last_pairs (three ns p l r (P₁ ns p i l r m) L₁ R₁) l r m ≡ moved_pairs ns p i l r m
  to_left₄ =
      on_lr B (P₁ ns p i l r m) L₁ R₁ (λ (v u : NodeVal). with_pairs v (take m v.pairs)) (λ (v u : NodeVal). with_pairs u (drop m v.pairs ++ u.pairs))
      ∙ rw (
        take_remove L.pairs m (omega (arith, low)),
        drop_remove L.pairs m (omega (arith, low)),
        take-append-le m L.pairs (x ∷ R.pairs) (omega (arith, low)),
        drop-append-le (m + 1) L.pairs (x ∷ R.pairs) (omega (arith, low)),
      ) refl

  pub left_ready₁ : PairAt ns l m
  left_ready₁ = record { node = B.left.node; place = low }

  pub left_parent : nth (three ns p l r P L₁ R) p ≡ P
  left_parent = three_p B P L₁ R

  pub left_ready₂ : PairAt (three ns p l r P L₁ R) p i
  left_ready₂ = record { node = node_p B P L₁ R; place = rw left_parent B.place }

  pub left_ready₃ : RoomAt (three ns p l r (P₁ ns p i l r m) L₁ R) r 0
  left_ready₃ =
      let v = three_r B (P₁ ns p i l r m) L₁ R in
      record { node = node_r B (P₁ ns p i l r m) L₁ R; room = rw v (omega (arith, q.room, q.some)); place = rw v (omega arith) }

  pub left_ready₄ : LastReady (three ns p l r (P₁ ns p i l r m) L₁ R₁) l r m
  left_ready₄ =
      let k = remove_length L.pairs m low in
      record {
        two = both_lr B (P₁ ns p i l r m) L₁ R₁;
        place = rw (three_l B (P₁ ns p i l r m) L₁ R₁) (omega (arith, low));
        fits = rw (three_l B (P₁ ns p i l r m) L₁ R₁, three_r B (P₁ ns p i l r m) L₁ R₁) (omega (arith, q.room));
      }

  module _ (a k : ℕ) (ea : a ≡ edges_with L.state (m + 1)) (ek : k ≡ edges_with L.state c) where
    -- a edges stay left, and k go
    pub left_edges : a + k ≡ length L.edges
    left_edges =
        ⊎_elim
        (λ f. omega (arith, f (m + 1), f c, f (length L.pairs + 1), edges_of_l B))
        (λ f. omega (arith, f (m + 1), f c, f (length L.pairs + 1), edges_of_l B))
        (with_either L.state)

    pub left_fits : length R.edges + k ≤ most + 1
    left_fits =
        ⊎_elim
        (λ f. omega (arith, f c, f (length R.pairs + 1), edges_of_r B, q.room))
        (λ f. omega (arith, f c, f (length R.pairs + 1), edges_of_r B))
        (with_either L.state)

    pub left_stay : take a L.edges ≡ take (m + 1) (joined_edges ns l r)
    left_stay =
        by_edges B m (λ (s u : List ℕ). take a s ≡ take (m + 1) (s ++ u))
        (λ f. rw (ea ∙ f (m + 1)) (sym (take-append-le (m + 1) L.edges R.edges (omega (arith, f (length L.pairs + 1), edges_of_l B, low)))))
        (take-nil a ∙ sym (take-nil (m + 1)))

    pub left_go : drop a L.edges ++ R.edges ≡ drop (m + 1) (joined_edges ns l r)
    left_go =
        by_edges B m (λ (s u : List ℕ). drop a s ++ u ≡ drop (m + 1) (s ++ u))
        (λ f. rw (ea ∙ f (m + 1)) (sym (drop-append-le (m + 1) L.edges R.edges (omega (arith, f (length L.pairs + 1), edges_of_l B, low)))))
        (rw (drop-nil {A = ℕ} a) (sym (drop-nil (m + 1))))

    pub left_count : (j : ℕ) → j ≡ length R.edges → j + k ≡ length (drop (m + 1) (joined_edges ns l r))
    left_count j f = rw (← left_go, length-append) (simp length-drop (omega (arith, left_edges)))

    pub left_less : length (take (m + 1) (joined_edges ns l r)) ≤ length L.edges
    left_less = rw (← left_stay) (omega (arith, left_edges, length-take-le a L.edges (omega (arith, left_edges))))
