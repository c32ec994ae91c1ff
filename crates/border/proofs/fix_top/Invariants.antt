-- Assumes nothing.
use mathlib.Core.Path.{◌≡◌}
use lib.ListN.{length}
use Rattle.model.specs.Layout.{header, height_word}
use Rattle.model.specs.Nodes.{Grown}
use Rattle.standing.specs.Heads.{Rest}
use Rattle.border.specs.Borders.{Rooted, RootedIn, tops}
use Rattle.border.proofs.fix_top.Given as goal

abbrev pub invariant-loop-a : goal.invariant-loop-a
invariant-loop-a l = RootedIn l.a × (length l.a ≡ length l.initial.a) × ((g : Rest) (t : Grown) → Rooted l.initial.a g t → (t' : Grown) × Rooted l.a g t' × (tops t' ≡ tops t))

abbrev pub decreases-loop-a : goal.decreases-loop-a
decreases-loop-a l = header l.a height_word
