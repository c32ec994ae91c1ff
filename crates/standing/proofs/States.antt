-- The nodes of a state have true counts.
-- Assumes nothing.
use Prim.Native.Nat.{ℕ, zero, suc, ◌+◌, ◌<◌}
use native.Mathlib.Decide.{dec_lt}
use native.Mathlib.Omega.{arith}
use mathlib.Core.Path.{◌≡◌, refl, ap}
use mathlib.Core.List.{List, [], ◌∷◌}
use lib.ListN.{length, length-append}
use Rattle.model.specs.Lists.{All}
use Rattle.model.specs.Layout.{none, NodeVal, nth}
use Rattle.model.specs.Tree.{Item, Tree, flat, flats}
use Rattle.model.specs.State.{State}
use Rattle.model.specs.Words.{pairs, links, root_no, node_val, Block, blocks_of, blocks, chain_blocks, blocks_in, nodes_in}
use Rattle.model.proofs.Lists.{all_append, all_left, all_right}
use Rattle.model.proofs.Held.{Written, Laid, laid_held, laid_node}
use Rattle.standing.specs.Totals.{totals, Totals}
use Rattle.standing.proofs.Totals.{past}

module _ (ns : List NodeVal) where
  abbrev Counted : Block → Type 0
  Counted b = b.val.total ≡ length b.val.pairs + totals ns b.val.edges

  -- the counts of a node's items, and what they add up to
  items_due : (h n i : ℕ) (r : List (Item (Tree (suc h)))) → All (Written ns) (blocks_of (blocks (suc h) n) i r) → length (pairs r) + totals ns (links (root_no (suc h)) r) ≡ length (flats (flat (suc h)) r)
  items_due h n i [] a = refl
  items_due h n i (x ∷ r) a =
      omega (
        arith,
        ap (λ (v : NodeVal). v.total) (all_left (Written ns) (blocks (suc h) n i x.edge) (blocks_of (blocks (suc h) n) (suc i) r) a).0,
        items_due h n (suc i) r (all_right (Written ns) (blocks (suc h) n i x.edge) (blocks_of (blocks (suc h) n) (suc i) r) a),
        length-append (flat (suc h) x.edge) (flats (flat (suc h)) r),
      )

  gaps_due : (r : List (Item (Tree 0))) → length (flats (flat 0) r) ≡ length (pairs r)
  gaps_due [] = refl
  gaps_due (x ∷ r) = ap suc (gaps_due r)

  node_due : (h p i : ℕ) (t : Tree (suc h)) → All (Written ns) (blocks (suc h) p i t) → Counted (record { no = t.no; val = node_val h p i t })
  node_due zero p i t a = omega (arith, gaps_due t.rest)
  node_due (suc h) p i t a =
      let fs = blocks (suc h) t.no 0 t.first in
      let rs = blocks_of (blocks (suc h) t.no) 1 t.rest in
      omega (
        arith,
        ap (λ (v : NodeVal). v.total) (all_left (Written ns) fs rs a.1).0,
        items_due h t.no 1 t.rest (all_right (Written ns) fs rs a.1),
        length-append (flat (suc h) t.first) (flats (flat (suc h)) t.rest),
      )

  due_items : (h n i : ℕ) → ((i : ℕ) (t : Tree h) → All (Written ns) (blocks h n i t) → All Counted (blocks h n i t)) → (r : List (Item (Tree h))) → All (Written ns) (blocks_of (blocks h n) i r) → All Counted (blocks_of (blocks h n) i r)
  due_items h n i f [] a = tt
  due_items h n i f (x ∷ r) a =
      all_append Counted (blocks h n i x.edge) (blocks_of (blocks h n) (suc i) r) (f i x.edge (all_left (Written ns) (blocks h n i x.edge) (blocks_of (blocks h n) (suc i) r) a))
      (due_items h n (suc i) f r (all_right (Written ns) (blocks h n i x.edge) (blocks_of (blocks h n) (suc i) r) a))

  all_due : (h p i : ℕ) (t : Tree h) → All (Written ns) (blocks h p i t) → All Counted (blocks h p i t)
  all_due zero p i t a = tt
  all_due (suc h) p i t a =
      let fs = blocks h t.no 0 t.first in
      let rs = blocks_of (blocks h t.no) 1 t.rest in
      (node_due h p i t a, all_append Counted fs rs (all_due h t.no 0 t.first (all_left (Written ns) fs rs a.1)) (due_items h t.no 1 (λ i t. all_due h _ i t) t.rest (all_right (Written ns) fs rs a.1)))

  chain_due : (free : List ℕ) → All Counted (chain_blocks free)
  chain_due [] = tt
  chain_due (n ∷ free) = (refl, chain_due free)

pub laid_totals : {s : State} → Laid s → Totals (nodes_in s)
laid_totals {s} o q u = go (dec_lt q s.size)
  where
    ns : List NodeVal
    ns = nodes_in s

    live : List Block
    live = blocks s.whole.height none 0 s.whole.root

    due_all : All (Counted (nodes_in s)) (blocks_in s)
    due_all =
        all_append (Counted (nodes_in s)) live (chain_blocks s.free)
        (all_due (nodes_in s) s.whole.height none 0 s.whole.root (all_left (Written (nodes_in s)) live (chain_blocks s.free) (laid_held o).nodes)) (chain_due (nodes_in s) s.free)

    go : Dec (q < s.size) → (nth (nodes_in s) q).total ≡ length (nth (nodes_in s) q).pairs + totals (nodes_in s) (nth (nodes_in s) q).edges
    go (yes h) = laid_node o (λ n v. v.total ≡ length v.pairs + totals (nodes_in s) v.edges) due_all q h
    go (no d) = rw (past (nodes_in s) q (omega (arith, (laid_held o).many))) refl
