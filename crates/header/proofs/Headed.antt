-- An arena has a header.
-- Assumes nothing.
use Rattle.std.proofs.Common.{ℕ, ◌≤◌, ◌∙◌, ap, List, length, arith}
use Rattle.model.specs.declared.Layout.{Layout}
use Rattle.model.specs.Layout.{header_size}
use Rattle.model.specs.State.{State}
use Rattle.model.specs.WellFormed.{WellFormedBy}
use Rattle.model.specs.Promise.{Holds}
use Rattle.model.proofs.Held.{words_long}

pub headed : {fm : Layout} {w : List ℕ} → WellFormedBy fm w → header_size ≤ length w
headed f = omega (arith, f.sized.long_is)

pub held : {w : List ℕ} {s : State} → Holds w s → header_size ≤ length w
held o = omega (arith, ap length o.words ∙ words_long o.sound, o.sound.some)
