-- What a search's end answers to a get.
-- Assumes nothing.
use Rattle.std.proofs.Common.{◌≡◌, ap}
use Rattle.model.specs.declared.Answer.TheVariants.{Value}
use Rattle.model.specs.Search.{Spot}
use Rattle.model.specs.State.{State, get_at}
use Rattle.search.specs.declared.Handle.{Handle}
use Rattle.navigate.proofs.Pairs.{Placed}

pub present : {s : State} {p : Spot} {d : Handle} (q : Placed s p d) → get_at s p ≡ record { answer = Value q.kv.item.pair.val; state = s }
present {s} q = ap (get_at s) q.same
