use Rattle.model.specs.State.{State}
use Rattle.model.specs.Promise.{Holds}
use Rattle.merging.proofs.Merges.{Counting}
use Rattle.merging.proofs.merge_count.Given as goal

abbrev pub invariant-loop-n : goal.invariant-loop-n
invariant-loop-n l = (s t : State) → Holds l.initial.a s → Holds l.initial.b t → Counting s t l.n l.x l.y
