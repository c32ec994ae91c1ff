use Rattle.model.specs.State.{State}
use Rattle.model.specs.Promise.{Holds}
use Rattle.merging.proofs.Merges.{Writing}
use Rattle.merging.proofs.merge_into.Given as goal

abbrev pub invariant-loop-n : goal.invariant-loop-n
invariant-loop-n l = (s t : State) → Holds l.initial.a s → Holds l.initial.b t → Writing s t l.initial.out l.out l.n l.x l.y
