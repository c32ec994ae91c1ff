-- Assumes nothing.
use Rattle.std.proofs.Common.{ℕ, ◌≡◌, List}
use Rattle.model.specs.Layout.{most}
use Rattle.inspect.proofs.Words.{Bare}
use Rattle.inspect.proofs.rest_zero.Given as goal

-- the words for the pairs up to t, ored where they stand from f on
pub record Ored (w : List ℕ) (b f t all : ℕ) : Type 0 where
  pub clear : all ≡ 0 → Bare w b f t
  pub none : Bare w b f most → all ≡ 0

abbrev pub invariant-loop-i : goal.invariant-loop-i
invariant-loop-i g l = Ored l.arena.words.now l.b l.n l.i l.all
