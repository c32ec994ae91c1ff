-- Pairs moved from right to left: the c-th pair goes up, the parent's comes down, the pairs before it follow.
-- Assumes nothing.
use Prim.Native.Nat.{ℕ, suc, ◌+◌, ◌-◌, ◌≤◌, ◌<◌}
use mathlib.Core.Path.{◌≡◌, refl, sym, ap, ◌∙◌}
use mathlib.Core.Logic.{⊎_elim}
use mathlib.Core.List.{List, [], ◌∷◌, ◌++◌, append_assoc}
use native.Mathlib.Numerals.{add-one}
use native.Mathlib.Omega.{arith}
use lib.ListN.{length, take, drop, set, length-append, length-drop}
use lib.Seq.{take-append-add, drop-append-add, get_or-append-add, length-take-le, take-nil, drop-nil}
use Rattle.model.specs.Lists.{insert_at}
use Rattle.model.specs.Tree.{Pair}
use Rattle.model.specs.Layout.{most, NodeVal, nth}
use Rattle.slices.specs.Words.{remove_at}
use Rattle.slices.proofs.Laws.{insert_last, remove_length, take_remove, drop_remove}
use Rattle.node.specs.Reading.{pair_at}
use Rattle.leaf.specs.Pairs.{with_pairs, insert_pair, replace_pair, remove_pair, first_pairs, RoomAt, PairAt, FirstReady}
use Rattle.balance.specs.Moves.{edges_with, Beside, three, joined_pairs, joined_edges, StealReady}
use Rattle.balance.proofs.Shapes.{with_either, edges_of_l, edges_of_r}
use Rattle.balance.proofs.Three.{three_p, three_l, three_r, node_p, node_l, both_lr, on_p, on_l, on_lr, from_r}
use Rattle.balance.proofs.Moving.{P₁, moved_pairs, by_edges}

module _ {ns : List NodeVal} {p i l r c : ℕ} (q : StealReady ns p i l r r l c) (k m : ℕ) (d : suc k ≡ c) (e : m ≡ length (nth ns l).pairs + suc k) where
  abbrev B : Beside ns p i l r
  B = q.beside

  abbrev P : NodeVal
  P = nth ns p

  abbrev L : NodeVal
  L = nth ns l

  abbrev R : NodeVal
  R = nth ns r

  abbrev x : Pair
  x = pair_at P.pairs i

  abbrev J : List Pair
  J = joined_pairs ns p i l r

  abbrev pub R₁ : NodeVal
  R₁ = with_pairs R (remove_at R.pairs k)

  abbrev pub L₁ : NodeVal
  L₁ = with_pairs L (L.pairs ++ x ∷ [])

  few : k < length R.pairs
  few = omega (arith, q.has)

  risen_is : pair_at R.pairs k ≡ pair_at J m
  risen_is = rw e (sym (get_or-append-add L.pairs (x ∷ R.pairs) (suc k) _))

  pub to_right₁ : remove_pair ns r k ≡ three ns p l r P L R₁
  to_right₁ = from_r B (λ (v : NodeVal). with_pairs v (remove_at v.pairs k))

  pub to_right₂ : (z : Pair) → z ≡ pair_at R.pairs k → replace_pair (three ns p l r P L R₁) p i z ≡ three ns p l r (P₁ ns p i l r m) L R₁
  to_right₂ z f = rw (f, risen_is) (on_p B P L R₁ (λ (v : NodeVal). with_pairs v (set v.pairs i (pair_at J m))))

  pub to_right₃ : (j : ℕ) (z : Pair) → j ≡ length L.pairs → z ≡ x → insert_pair (three ns p l r (P₁ ns p i l r m) L R₁) l j z ≡ three ns p l r (P₁ ns p i l r m) L₁ R₁
  to_right₃ j z f g =
      rw (f, g) (on_l B (P₁ ns p i l r m) L R₁ (λ (v : NodeVal). with_pairs v (insert_at v.pairs (length L.pairs) x)) ∙ ap (λ (s : List Pair). three ns p l r (P₁ ns p i l r m) (with_pairs L s) R₁) (insert_last L.pairs x))

  pub to_right₄ : first_pairs (three ns p l r (P₁ ns p i l r m) L₁ R₁) l r k ≡ moved_pairs ns p i l r m
  to_right₄ =
      let g : m + 1 ≡ length L.pairs + suc (suc k) = omega arith in
      let s : (L.pairs ++ x ∷ []) ++ take k R.pairs ≡ take m J = rw e (append_assoc L.pairs (x ∷ []) (take k R.pairs) ∙ sym (take-append-add L.pairs (x ∷ R.pairs) (suc k))) in
      let u : drop (k + 1) R.pairs ≡ drop (m + 1) J = rw (g, add-one k) (sym (drop-append-add L.pairs (x ∷ R.pairs) (suc (suc k)))) in
      on_lr B (P₁ ns p i l r m) L₁ R₁ (λ (v w : NodeVal). with_pairs v (v.pairs ++ take k w.pairs)) (λ (v w : NodeVal). with_pairs w (drop k w.pairs))
      ∙ rw (take_remove R.pairs k (omega (arith, few)), drop_remove R.pairs k (omega (arith, few)), s, u) refl

  pub right_ready₁ : PairAt ns r k
  right_ready₁ = record { node = B.right.node; place = few }

  pub right_parent : nth (three ns p l r P L R₁) p ≡ P
  right_parent = three_p B P L R₁

  pub right_ready₂ : PairAt (three ns p l r P L R₁) p i
  right_ready₂ = record { node = node_p B P L R₁; place = rw right_parent B.place }

  pub right_ready₃ : (j : ℕ) → j ≡ length L.pairs → RoomAt (three ns p l r (P₁ ns p i l r m) L R₁) l j
  right_ready₃ j f =
      let v = three_l B (P₁ ns p i l r m) L R₁ in
      record { node = node_l B (P₁ ns p i l r m) L R₁; room = rw v (omega (arith, q.room, q.some)); place = rw v (omega arith) }

  pub right_ready₄ : FirstReady (three ns p l r (P₁ ns p i l r m) L₁ R₁) l r k
  right_ready₄ =
      let n = remove_length R.pairs k few in
      let o = length-append L.pairs (x ∷ []) in
      record {
        two = both_lr B (P₁ ns p i l r m) L₁ R₁;
        place = rw (three_r B (P₁ ns p i l r m) L₁ R₁) (omega (arith, few));
        fits = rw (three_l B (P₁ ns p i l r m) L₁ R₁) (omega (arith, q.room));
      }

  -- b edges go left
  module _ (b : ℕ) (eb : b ≡ edges_with L.state c) where
    pub right_fits : length L.edges + b ≤ most + 1
    right_fits =
        ⊎_elim
        (λ f. omega (arith, f c, f (length L.pairs + 1), edges_of_l B, q.room))
        (λ f. omega (arith, f c, f (length L.pairs + 1), edges_of_l B))
        (with_either L.state)

    pub right_some : b ≤ length R.edges
    right_some =
        ⊎_elim
        (λ f. omega (arith, f c, f (length R.pairs + 1), edges_of_r B, q.has))
        (λ f. omega (arith, f c))
        (with_either L.state)

    pub right_come : L.edges ++ take b R.edges ≡ take (m + 1) (joined_edges ns l r)
    right_come =
        by_edges B m (λ (s u : List ℕ). s ++ take b u ≡ take (m + 1) (s ++ u))
        (λ f.
        let g : m + 1 ≡ length L.edges + c = omega (arith, f (length L.pairs + 1), edges_of_l B) in
        rw (eb ∙ f c, g) (sym (take-append-add L.edges R.edges c)))
        (take-nil b ∙ sym (take-nil (m + 1)))

    pub right_stay : drop b R.edges ≡ drop (m + 1) (joined_edges ns l r)
    right_stay =
        by_edges B m (λ (s u : List ℕ). drop b u ≡ drop (m + 1) (s ++ u))
        (λ f.
        let g : m + 1 ≡ length L.edges + c = omega (arith, f (length L.pairs + 1), edges_of_l B) in
        rw (eb ∙ f c, g) (sym (drop-append-add L.edges R.edges c)))
        (drop-nil b ∙ sym (drop-nil (m + 1)))

    pub right_count_l : (j : ℕ) → j ≡ length L.edges → j + b ≡ length (take (m + 1) (joined_edges ns l r))
    right_count_l j f = rw (← right_come, length-append) (omega (arith, length-take-le b R.edges right_some))

    pub right_count_r : (j : ℕ) → j ≡ length R.edges → j - b ≡ length (drop (m + 1) (joined_edges ns l r))
    right_count_r j f = rw (← right_stay) (simp length-drop (omega arith))
