-- A tree in nodes whose counts are still to be set, and the same with true counts.
-- Assumes nothing.
use Rattle.std.specs.Prelude.{ℕ, zero, suc, ◌+◌, ◌≤◌, ◌<◌, ◌≡◌, List, [], ◌∷◌, ◌++◌, map, length}
use Rattle.model.specs.Lists.{All}
use Rattle.model.specs.Layout.{largest_count, NodeVal, nth, Arena}
use Rattle.model.specs.Tree.{Item, Tree, flat, has}
use Rattle.model.specs.Sound.{AllIn}
use Rattle.standing.specs.Kept.{Links, Kept}
use Rattle.standing.specs.Standing.{Stands}

-- the count of every node of a tree is that of its pairs
abbrev pub Right : List NodeVal → (h : ℕ) → Tree h → Type 0
Right ns zero t = Unit {0}
Right ns (suc h) t = ((nth ns t.no).total ≡ length (flat (suc h) t)) × Right ns h t.first × AllIn (Right ns h) t.rest

-- a tree, with h levels below its root n
pub record TreeIn (ns : List NodeVal) (n h : ℕ) : Type 0 where
  pub tree : Tree (suc h)
  pub node_is : tree.no ≡ n
  pub stands : Stands ns (suc h) tree
  pub links : Links ns
  pub few : length ns ≤ largest_count
  pub once : (m : ℕ) → has m (suc h) tree ≤ 1
  pub within : (m : ℕ) → 1 ≤ has m (suc h) tree → m < length ns

-- its counts are true, and nothing else has changed
pub record CountedIn (w hd : List ℕ) (ns : List NodeVal) (h : ℕ) (t : Tree (suc h)) : Type 0 where
  pub nodes : List NodeVal
  pub arena : Arena w hd nodes
  pub same : Kept ns nodes [] []
  pub others : (m : ℕ) → has m (suc h) t ≡ 0 → (nth nodes m).total ≡ (nth ns m).total
  pub right : Right nodes (suc h) t

-- ---- the trees below a node

abbrev pub kids : (h : ℕ) → Tree (suc h) → List (Tree h)
kids h t = t.first ∷ map (λ (x : Item (Tree h)). x.edge) t.rest

abbrev pub has_all : ℕ → (h : ℕ) → List (Tree h) → ℕ
has_all m h [] = 0
has_all m h (t ∷ ts) = has m h t + has_all m h ts

-- the first of them are counted, the others are not
pub record Upto (w hd : List ℕ) (ns : List NodeVal) (h : ℕ) (t : Tree (suc (suc h))) (i : ℕ) : Type 0 where
  pub done : List (Tree (suc h))
  pub todo : List (Tree (suc h))
  pub all : done ++ todo ≡ kids (suc h) t
  pub many : length done ≡ i
  pub nodes : List NodeVal
  pub arena : Arena w hd nodes
  pub same : Kept ns nodes [] []
  pub others : (m : ℕ) → has_all m (suc h) done ≡ 0 → (nth nodes m).total ≡ (nth ns m).total
  pub right : All (Right nodes (suc h)) done

-- all of them are
pub record EdgesIn (w hd : List ℕ) (ns : List NodeVal) (h : ℕ) (t : Tree (suc (suc h))) : Type 0 where
  pub nodes : List NodeVal
  pub arena : Arena w hd nodes
  pub same : Kept ns nodes [] []
  pub others : (m : ℕ) → has_all m (suc h) (kids (suc h) t) ≡ 0 → (nth nodes m).total ≡ (nth ns m).total
  pub right : All (Right nodes (suc h)) (kids (suc h) t)
