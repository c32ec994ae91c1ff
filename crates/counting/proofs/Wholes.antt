-- Counts of a whole tree: true for every node.
-- Assumes nothing.
use Prim.Native.Nat.{ℕ, zero, suc, ◌+◌, ◌≤◌, ◌<◌}
use native.Mathlib.Decide.{ℕ_discrete, dec_lt}
use native.Mathlib.Omega.{arith}
use mathlib.Core.Path.{◌≡◌, sym, ap, ◌∙◌, subst}
use mathlib.Core.List.{List, [], ◌∷◌}
use lib.ListN.{length}
use Rattle.model.specs.Lists.{times}
use Rattle.model.specs.Layout.{NodeVal, nth}
use Rattle.model.specs.Tree.{Item, Tree, Whole, has, has_in}
use Rattle.model.specs.Sound.{AllIn}
use Rattle.model.proofs.Lists.{one_other}
use Rattle.standing.specs.Standing.{Stands, Closed}
use Rattle.standing.specs.Totals.{totals, due, Totals}
use Rattle.standing.proofs.Totals.{past}
use Rattle.totals.proofs.Siblings.{chain_free}
use Rattle.counting.specs.Counting.{Right}
use Rattle.counting.proofs.Counts.{due_right}

module _ (ns : List NodeVal) where
  items_total : (h : ℕ) (q : ℕ) → ((t : Tree h) → Stands ns h t → Right ns h t → 1 ≤ has q h t → (nth ns q).total ≡ due ns q) → (r : List (Item (Tree h))) → AllIn (Stands ns h) r → AllIn (Right ns h) r → 1 ≤ has_in (has q h) r → (nth ns q).total ≡ due ns q
  items_total h q f [] a b u = absurd (omega arith)
  items_total h q f (x ∷ r) a b u = go (dec_lt 0 (has q h x.edge)) (items_total h q f r a.1 b.1)
    where
      go : Dec (0 < has q h x.edge) → (1 ≤ has_in (has q h) r → (nth ns q).total ≡ due ns q) → (nth ns q).total ≡ due ns q
      go (yes l) k = f x.edge a.0 b.0 (omega arith)
      go (no d) k = k (omega arith)

  tree_total : (q h : ℕ) (t : Tree h) → Stands ns h t → Right ns h t → 1 ≤ has q h t → (nth ns q).total ≡ due ns q
  tree_total q zero t s r u = absurd (omega arith)
  tree_total q (suc h) t s r u = go (ℕ_discrete t.no q) (dec_lt 0 (has q h t.first)) (tree_total q h t.first s.1 r.1) (items_total h q (tree_total q h) t.rest s.2 r.2)
    where
      go : Dec (t.no ≡ q) → Dec (0 < has q h t.first) → (1 ≤ has q h t.first → (nth ns q).total ≡ due ns q) → (1 ≤ has_in (has q h) t.rest → (nth ns q).total ≡ due ns q) → (nth ns q).total ≡ due ns q
      go (yes e) k x y = subst (λ (p : ℕ). (nth ns p).total ≡ due ns p) e (r.0 ∙ sym (due_right ns h t s r.1 r.2))
      go (no d) (yes l) x y = x (omega arith)
      go (no d) (no l) x y = y (omega (arith, one_other t.no q d))

  pub all_total : (t : Whole) (free : List ℕ) → Closed ns t free → Right ns t.height t.root → Totals ns
  all_total t free H r q u = go (dec_lt q (length ns)) (dec_lt 0 (times q free))
    where
      go : Dec (q < length ns) → Dec (0 < times q free) → (nth ns q).total ≡ due ns q
      go (no d) k = let e = past ns q (omega arith) in ap (λ (v : NodeVal). v.total) e ∙ sym (ap (λ (v : NodeVal). length v.pairs + totals ns v.edges) e)
      go (yes l) (yes k) =
          let e = chain_free ns free H.chain q (omega arith) in
          ap (λ (v : NodeVal). v.total) e ∙ sym (ap (λ (v : NodeVal). length v.pairs + totals ns v.edges) e)
      go (yes l) (no k) = tree_total q t.height t.root H.tree r (omega (arith, H.all q l))
