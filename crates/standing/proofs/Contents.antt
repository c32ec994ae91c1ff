-- What a node of the tree holds, as numbers: a filled hole, and a node's value from its body and its link.
-- Assumes nothing.
use mathlib.Core.Path.{◌≡◌, refl, ap}
use mathlib.Core.List.{List, [], ◌∷◌, map}
use Prim.Native.Nat.{ℕ, zero, suc}
use Rattle.model.specs.Layout.{NodeVal}
use Rattle.model.specs.Tree.{Pair, Item, Tree, fill, fill_first, fill_rest}
use Rattle.model.specs.Words.{root_no, pairs, links, node_val}
use Rattle.store.specs.Links.{body_of, link_of}
use Rattle.standing.specs.Standing.{numbered, content, content_of}

-- ---- a filled hole

module _ {A : Type 0} (g : A → ℕ) where
  abbrev num : Item A → Item ℕ
  num x = record { pair = x.pair; edge = g x.edge }

  fill_first_lem : (l : List (Item A)) (x : A) → g (fill_first l x) ≡ fill_first (map num l) (g x)
  fill_first_lem [] x = refl
  fill_first_lem (y ∷ l) x = fill_first_lem l y.edge

  fill_rest_lem : (l : List (Item A)) (x : A) (r : List (Item A)) → map num (fill_rest l x r) ≡ fill_rest (map num l) (g x) (map num r)
  fill_rest_lem [] x r = refl
  fill_rest_lem (y ∷ l) x r = fill_rest_lem l y.edge (record { pair = y.pair; edge = x } ∷ r)

  num_pairs : (r : List (Item A)) → map (λ (x : Item ℕ). x.pair) (map num r) ≡ pairs r
  num_pairs [] = refl
  num_pairs (x ∷ r) = ap {B = List Pair} (λ l. x.pair ∷ l) (num_pairs r)

  num_edges : (r : List (Item A)) → map (λ (x : Item ℕ). x.edge) (map num r) ≡ links g r
  num_edges [] = refl
  num_edges (x ∷ r) = ap {B = List ℕ} (λ l. g x.edge ∷ l) (num_edges r)

pub content_fill : (h n : ℕ) (l : List (Item (Tree h))) (x : Tree h) (r : List (Item (Tree h))) → content h (root_no h (fill n l x r).first) (numbered h (fill n l x r).rest) ≡ content_of h (fill n (numbered h l) (root_no h x) (numbered h r))
content_fill h n l x r = rw (fill_first_lem (root_no h) l x, fill_rest_lem (root_no h) l x r)

-- ---- a node's value

-- its body in the tree
pub content_is : (h parent i : ℕ) (t : Tree (suc h)) → body_of (node_val h parent i t) ≡ content h (root_no h t.first) (numbered h t.rest)
content_is zero parent i t = rw (num_pairs (root_no 0) t.rest)
content_is (suc h) parent i t = rw (num_pairs (root_no (suc h)) t.rest, num_edges (root_no (suc h)) t.rest)

-- put together
pub value_of : (v u : NodeVal) → body_of v ≡ body_of u → link_of v ≡ link_of u → v.total ≡ u.total → v ≡ u
value_of v u b l t = λ i. record { state = (b i).state; parent = (l i).parent; place = (l i).place; pairs = (b i).pairs; edges = (b i).edges; total = t i }
