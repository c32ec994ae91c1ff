-- A rank on its way down: which edge or pair of a node it falls on.
-- Assumes nothing.
use Rattle.std.specs.Prelude.{ℕ, suc, ◌≤◌, ◌<◌, ◌≡◌, List, [], ◌∷◌, length}
use Rattle.std.proofs.Math.Option.{some}
use Rattle.model.specs.Tree.{Item, Tree, flat}
use Rattle.model.specs.Range.{open_at}
use Rattle.model.specs.Map.{nth}
use Rattle.model.specs.State.{State, At, list}
use Rattle.model.specs.Edges.{hole_at}
use Rattle.search.specs.declared.Handle.{Handle}
use Rattle.navigate.specs.Places.{KvAt}
use Rattle.ranks.specs.declared.Lead.{Lead}
use Rattle.ranks.specs.declared.Lead.TheVariants.{Kv, Edge}

-- node n is internal, and i is one of its edges
pub record EdgeIn (s : State) (n i : ℕ) : Type 0 where
  pub height : ℕ
  pub place : At s n (suc height)
  pub inside : i ≤ length place.tree.rest

-- it has more pairs below it than k
pub record NodeIn (s : State) (n k : ℕ) : Type 0 where
  pub height : ℕ
  pub place : At s n (suc height)
  pub more : k < length (flat (suc (suc height)) place.tree)

-- the pair right of the edge i is the one of rank k
pub record Here (h : ℕ) (t : Tree (suc h)) (k i : ℕ) : Type 0 where
  pub item : Item (Tree h)
  pub later : List (Item (Tree h))
  pub inside : i < length t.rest
  pub is : (open_at i [] t.first t.rest).right ≡ item ∷ later
  pub picks : nth k (flat (suc h) t) ≡ some item.pair

-- it is below the edge i, and there of rank j
pub record Onward (h : ℕ) (t : Tree (suc h)) (k i j : ℕ) : Type 0 where
  pub inside : i ≤ length t.rest
  pub same : nth k (flat (suc h) t) ≡ nth j (flat h (hole_at t i))
  pub more : j < length (flat h (hole_at t i))

abbrev pub Passing : (h : ℕ) → Tree (suc h) → ℕ → Lead → Type 0
Passing h t k (Kv p) = Here h t k p.0
Passing h t k (Edge p j) = Onward h t k p.0 j

-- the place of the pair of rank k
pub record Picking (s : State) (k : ℕ) (d : Handle) : Type 0 where
  pub kv : KvAt s d
  pub picks : nth k (list s) ≡ some kv.item.pair
