-- Assumes nothing.
use Rattle.std.proofs.Common.{ℕ, List}
use Rattle.model.specs.Tree.{Whole}
use Rattle.standing.specs.Heads.{Rest}
use Rattle.model.specs.Load.{plenty_of}
use Rattle.appending.specs.Stocks.{Stocks, Pushed}
use Rattle.append.proofs.fix_right_border_of_plentiful.Given as goal

abbrev pub invariant-loop-height : goal.invariant-loop-height
invariant-loop-height l = (g : Rest) (t : Whole) (free : List ℕ) → Pushed l.initial.a g t free → Stocks l.a g l.node.0 l._height (plenty_of t.height t.root) free
