use Rattle.model.specs.Tree.{after}
use Rattle.model.specs.Map.{up_to}
use Rattle.model.specs.State.{State}
use Rattle.model.specs.Promise.{Holds}
use Rattle.navigate.specs.Places.{EdgeAt}
use Rattle.listing.proofs.Sofar.{Sofar}
use Rattle.listing.proofs.write_from.Given as goal

abbrev pub invariant-loop-wrote : goal.invariant-loop-wrote
invariant-loop-wrote l = (s : State) → Holds l.initial.a s → (y : EdgeAt s l.fn.from) → Sofar s (up_to l.initial.end (after y.way)) l.initial.end l.initial.out l.out l.wrote l.edge
