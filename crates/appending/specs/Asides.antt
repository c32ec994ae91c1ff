-- A hole that a tree fills, and beside it a tree of any height that no edge leads to yet: how a new right side is built.
-- Assumes nothing.
use Rattle.std.specs.Prelude.{ℕ, pred, ◌≡◌, List, length}
use Rattle.model.specs.Layout.{NodeVal, Arena}
use Rattle.model.specs.Tree.{Tree, Ctx}
use Rattle.model.specs.Words.{root_no}
use Rattle.standing.specs.Standing.{root_of, Aside}
use Rattle.standing.specs.Heads.{Rest, head_words, top_of}

-- the words are such, whatever the counts
pub record AsideIn (w : List ℕ) (g : Rest) {h : ℕ} (c : Ctx h) (x : Tree h) (j : ℕ) (y : Tree j) (free : List ℕ) : Type 0 where
  pub nodes : List NodeVal
  pub arena : Arena w (head_words g (root_of c (root_no h x)) (pred (top_of c)) free) nodes
  pub stand : Aside nodes c x j y free
  pub many : length nodes ≡ g.size
