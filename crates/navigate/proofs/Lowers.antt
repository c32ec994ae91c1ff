-- The descent of a start bound, node by node.
-- Assumes nothing.
use Rattle.std.proofs.Common.{ℕ, zero, suc, ◌+◌, ◌-◌, ◌≤◌, sub-one, arith, ◌≡◌, refl, sym, ap, ◌∙◌, subst, List, length}
use lib.ListN.{length-map}
use Rattle.model.specs.declared.SearchBound.{SearchBound}
use Rattle.model.specs.Lists.{part}
use Rattle.model.specs.Layout.{base, word_at, length_word, keys_word, edges_word}
use Rattle.model.specs.Tree.{Ctx, Whole, plug, flat_of}
use Rattle.model.specs.Search.{sink}
use Rattle.model.specs.Range as range
use Rattle.model.specs.Range.{lower_edge, keys_of}
use Rattle.model.specs.Map.{Rising}
use Rattle.model.specs.State.{State}
use Rattle.model.specs.Promise.{Holds}
use Rattle.model.proofs.Forks.{starts, lower_step, lower_inside}
use Rattle.model.proofs.Standing.{At, below_at}
use Rattle.node.specs.declared.Place.{Place}
use Rattle.search.specs.Results.{leaf_edge, edged}
use Rattle.search.proofs.Descents.{keys_are, leaf_at}

-- the descent z has come to a node, with the bound b
pub record Lowering (z : Ctx zero) (s : State) (b : SearchBound) (n h : ℕ) : Type 0 where
  pub place : At s n h
  pub same : z ≡ sink (starts b) (suc h) place.ctx place.tree

module _ (z : Ctx zero) {w : List ℕ} {s : State} (o : Holds w s) (b : SearchBound) (n : ℕ) (ks : List ℕ) (q : ks ≡ part w (base n + keys_word) (word_at w n length_word)) (l : Place × SearchBound) (el : l ≡ edged (lower_edge b ks)) where
  -- the edge in the node of the tree
  abbrev pub low_at : {h : ℕ} → At s n h → range.BoundEdge
  low_at p = lower_edge b (keys_of p.tree.rest)

  pub low_is : {h : ℕ} (p : At s n h) → l ≡ edged (low_at p)
  low_is p = el ∙ ap (λ (x : List ℕ). edged (lower_edge b x)) (keys_are o p ks q)

  pub low_inside : {h : ℕ} (p : At s n h) → (low_at p).at ≤ length p.tree.rest
  low_inside p = simp length-map at (lower_inside b (keys_of p.tree.rest))

  pub rises : {h : ℕ} (p : At s n h) → Rising (flat_of (plug p.ctx p.tree))
  rises p = subst (λ (x : Whole). Rising (flat_of x)) (sym p.whole) o.sound.rising

  pub lowered : (h : ℕ) → Lowering z s b n h → h ≡ 0 → record { node = record { 0 = n }; height = 0; at = l.0 } ≡ leaf_edge z
  lowered zero y e = let p = y.place in rw (low_is p) (sym (ap leaf_edge (y.same ∙ lower_step b p.ctx p.tree (rises p)) ∙ leaf_at p (low_at p).at (low_inside p)))
  lowered (suc h) y e = absurd (omega arith)

  pub lowering_on : (h : ℕ) → Lowering z s b n h → (h ≡ 0 → ⊥) → (m : ℕ) → m ≡ word_at w n (edges_word + l.0.0) → Lowering z s l.1 m (h - 1)
  lowering_on zero y e m em = absurd (e refl)
  lowering_on (suc h) y e m em =
      let p = y.place in
      let a = low_is p in
      rw (sub-one (suc h), a) (record { place = below_at o p (low_at p).at m (low_inside p) (rw a at em); same = y.same ∙ lower_step b p.ctx p.tree (rises p) })
