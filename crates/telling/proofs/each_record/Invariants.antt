-- Assumes nothing.
use Rattle.std.proofs.Common.{Ok}
use Rattle.std.specs.Io.KnownBytes.{Consumes, IsAtEnd}
use Rattle.std.specs.Fn.{CalledAt}
use Rattle.telling.specs.Records.{Handed}
use Rattle.telling.proofs.each_record.Given as goal

-- what follows from here on follows from the start
abbrev pub invariant-loop-i : goal.invariant-loop-i
invariant-loop-i g l =
    goal.F-IsAlwaysCallable g l.take
    × ((t : _) (h : _) → Handed (λ s t b. Consumes (g.R.Read.remaining s) (g.R.Read.remaining t) b) (λ t. IsAtEnd (g.R.Read.remaining t)) (λ p b q. CalledAt g.F.FnMut p b (Ok tt) q) t h l.i l.input l.take → Handed (λ s t b. Consumes (g.R.Read.remaining s) (g.R.Read.remaining t) b) (λ t. IsAtEnd (g.R.Read.remaining t)) (λ p b q. CalledAt g.F.FnMut p b (Ok tt) q) t h 0 l.initial.input l.initial.take)
