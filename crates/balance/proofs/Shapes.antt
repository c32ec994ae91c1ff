-- How many edges a node has, by its state, and what is known of the words of a node of that shape.
-- Assumes nothing.
use Prim.Native.Nat.{ℕ, ◌+◌, ◌≤◌}
use mathlib.Core.Path.{◌≡◌, refl, sym, ap, ◌∙◌}
use mathlib.Core.Logic.{◌⊎◌, inl, inr}
use mathlib.Core.List.{List}
use native.Mathlib.Decide.{ℕ_discrete}
use borrow.Author.Tests.{eq-eqb, ne_eqb}
use lib.ListN.{length}
use Rattle.model.specs.Layout.{most, internal, length_word, state_word, word_at, NodeVal, nth, Arena}
use Rattle.node.specs.Reading.{Within}
use Rattle.node.proofs.Reading.{within, len_is, state_is}
use Rattle.balance.specs.Moves.{edges_with, Shaped, Beside}

pub with_all : (st k : ℕ) → st ≡ internal → edges_with st k ≡ k
unfolding edges_with
with_all st k e = rw (eq-eqb st internal e) refl

pub with_none : (st k : ℕ) → (st ≡ internal → ⊥) → edges_with st k ≡ 0
unfolding edges_with
with_none st k d = rw (ne_eqb st internal d) refl

-- all, or none
pub with_either : (st : ℕ) → ((k : ℕ) → edges_with st k ≡ k) ⊎ ((k : ℕ) → edges_with st k ≡ 0)
with_either st = go (ℕ_discrete st internal)
  where
    go : Dec (st ≡ internal) → ((k : ℕ) → edges_with st k ≡ k) ⊎ ((k : ℕ) → edges_with st k ≡ 0)
    go (yes e) = inl (λ k. with_all st k e)
    go (no d) = inr (λ k. with_none st k d)

module _ {w h : List ℕ} {ns : List NodeVal} {n : ℕ} (s : Shaped ns n) (a : Arena w h ns) where
  pub shape_here : Within w n × (word_at w n length_word ≡ length (nth ns n).pairs) × (length (nth ns n).pairs ≤ most) × (length (nth ns n).edges ≤ most + 1)
  shape_here = (within a n s.node, len_is a n s.node, (a.small n s.node).pairs_fit, (a.small n s.node).edges_fit)

  pub edges_with_lem : (m k : ℕ) → m ≡ edges_with (word_at w n state_word) k → m ≡ edges_with (nth ns n).state k
  edges_with_lem m k e = e ∙ ap (λ (t : ℕ). edges_with t k) (state_is a n s.node)

  -- all edges of the node
  pub edges_here : (len m : ℕ) → len ≡ word_at w n length_word → m ≡ edges_with (word_at w n state_word) (len + 1) → m ≡ length (nth ns n).edges
  edges_here len m e d = edges_with_lem m (len + 1) d ∙ ap (λ (t : ℕ). edges_with (nth ns n).state (t + 1)) (e ∙ shape_here.1) ∙ sym s.edges_are

-- the edges of two children, by the state of the left one
module _ {ns : List NodeVal} {p i l r : ℕ} (b : Beside ns p i l r) where
  pub edges_of_l : length (nth ns l).edges ≡ edges_with (nth ns l).state (length (nth ns l).pairs + 1)
  edges_of_l = b.left.edges_are

  pub edges_of_r : length (nth ns r).edges ≡ edges_with (nth ns l).state (length (nth ns r).pairs + 1)
  edges_of_r = b.right.edges_are ∙ ap (λ (s : ℕ). edges_with s (length (nth ns r).pairs + 1)) b.alike
