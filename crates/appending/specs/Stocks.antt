-- The arena's words while a load's right border is stocked.
-- Assumes nothing.
use Rattle.std.specs.Prelude.{ℕ, zero, suc, ◌≤◌, ◌≡◌, List, length}
use Rattle.model.specs.Tree.{Tree, Ctx, Whole}
use Rattle.model.specs.Sizes.{LastKids}
use Rattle.standing.specs.Heads.{Rest, HoleBy, ClosedBy, Uncounted}
use Rattle.model.specs.Load.{plenty_down}
use Rattle.loading.specs.Shapes.{Perfect, Plenty, RootPlenty}

-- a node of n pairs with h levels below it has a pair, if it is no leaf
abbrev pub Some : ℕ → ℕ → Type 0
Some zero n = Unit {0}
Some (suc h) n = 1 ≤ n

-- the stocking is going to t: it has come to the node `node`, with h levels below it
pub record Stocks (w : List ℕ) (g : Rest) (node h : ℕ) (t : Whole) (free : List ℕ) : Type 0 where
  pub way : Ctx (suc h)
  pub tree : Tree (suc h)
  pub held : HoleBy Uncounted w g way tree free
  pub node_is : tree.no ≡ node
  pub some : Some h (length tree.rest)
  pub plenty : LastKids (Perfect h) (Plenty h) tree.first tree.rest
  pub same : plenty_down h way tree ≡ t

-- there is such
pub record StocksIn (w : List ℕ) (node : ℕ) : Type 0 where
  pub height : ℕ
  pub rest : Rest
  pub end : Whole
  pub free : List ℕ
  pub coming : Stocks w rest node (suc height) end free

-- the words are a tree that the pushes left
pub record Pushed (w : List ℕ) (g : Rest) (t : Whole) (free : List ℕ) : Type 0 where
  pub held : ClosedBy Uncounted w g (record { whole = t; free = free })
  pub plenty : RootPlenty t.height t.root

pub record PushedIn (w : List ℕ) : Type 0 where
  pub rest : Rest
  pub end : Whole
  pub free : List ℕ
  pub pushed : Pushed w rest end free
