-- The stages of a split: a node taken, then the pairs moved to it.
-- Assumes nothing.
use Prim.Native.Nat.{ℕ, ◌+◌}
use mathlib.Core.Path.{◌≡◌, refl, sym, ap}
use mathlib.Core.Logic.{◌≢◌}
use mathlib.Core.List.{List, []}
use native.Mathlib.Nat.{not-suc-le-zero}
use native.Mathlib.Omega.{arith}
use lib.ListN.{take, drop, set, length-set}
use lib.Seq.{get_or-set_same, get_or-set_other, set-set, set_comm, take-nil, drop-nil}
use Rattle.model.specs.Layout.{leaf, NodeVal, nth, blank}
use Rattle.node.specs.Reading.{pair_at}
use Rattle.model.specs.Nodes.{taken}
use Rattle.store.specs.Links.{with_body, fresh, take_node}
use Rattle.store.proofs.Chain.{take_in, take_free}
use Rattle.store.proofs.Relink.{from_none}
use Rattle.leaf.specs.Pairs.{with_pairs, split_pairs, SplitReady}
use Rattle.leaf.specs.Split.{IsLeaf, cut_bodies, split_nodes, CutReady}

-- the pairs are moved, and no edges yet
abbrev pub cut_pairs : List NodeVal → ℕ → ℕ → ℕ → ℕ → List NodeVal
cut_pairs ns n m i st = set (set ns n (with_pairs (nth ns n) (take i (nth ns n).pairs))) m (with_body (fresh st) (drop (i + 1) (nth ns n).pairs) [])

module _ (h : List ℕ) (ns : List NodeVal) (free : List ℕ) (n i st : ℕ) (r : CutReady h ns free n i) where
  abbrev m : ℕ
  m = taken free

  pub new_other : n ≢ m
  new_other e =
      let z : (nth ns n).pairs ≡ [] = rw e (ap (λ (v : NodeVal). v.pairs) (take_free r.take)) in
      absurd (not-suc-le-zero (rw z at r.place))

  taken_n : nth (take_node ns free st) n ≡ nth ns n
  taken_n = get_or-set_other ns m n (fresh st) blank new_other

  taken_m : nth (take_node ns free st) m ≡ fresh st
  taken_m = get_or-set_same ns m (fresh st) blank (take_in r.take)

  pub to_split : SplitReady (take_node ns free st) n m i
  to_split = record {
    two = record { left = rw length-set r.node; right = rw length-set (take_in r.take); apart = new_other };
    place = rw taken_n r.place;
    empty = ap (λ (v : NodeVal). v.pairs) taken_m;
  }

  pub pair_same : pair_at (nth (take_node ns free st) n).pairs i ≡ pair_at (nth ns n).pairs i
  pair_same = ap (λ (v : NodeVal). pair_at v.pairs i) taken_n

  pub pairs_cut : split_pairs (take_node ns free st) n m i ≡ cut_pairs ns n m i st
  pairs_cut =
      rw (
        taken_n,
        taken_m,
        set_comm ns m n (fresh st) (with_pairs (nth ns n) (take i (nth ns n).pairs)) (λ e. new_other (sym e)),
      ) (set-set (set ns n (with_pairs (nth ns n) (take i (nth ns n).pairs))) m (fresh st) (with_body (fresh st) (drop (i + 1) (nth ns n).pairs) []))

-- of a leaf that is all
pub leaf_split : (h : List ℕ) (ns : List NodeVal) (free : List ℕ) (n i : ℕ) → CutReady h ns free n i → IsLeaf (nth ns n) → cut_pairs ns n (taken free) i leaf ≡ split_nodes ns n (taken free) i
unfolding split_nodes
leaf_split h ns free n i r l =
    let b : cut_bodies ns n (taken free) i ≡ cut_pairs ns n (taken free) i leaf = rw (l.no_edges, l.state_is, take-nil {A = ℕ} (i + 1), drop-nil {A = ℕ} (i + 1)) refl in
    let e : (nth (cut_pairs ns n (taken free) i leaf) (taken free)).edges ≡ [] = ap (λ (v : NodeVal). v.edges) (get_or-set_same (set ns n (with_pairs (nth ns n) (take i (nth ns n).pairs))) (taken free) _ blank (rw length-set (take_in r.take))) in
    sym (rw b (from_none (cut_pairs ns n (taken free) i leaf) (taken free) 0 (rw e (omega arith))))
