-- `cursor::from_end` meets its contract.
-- Assumes nothing.
use Rattle.std.proofs.Common.{sym, ◌∙◌}
use Rattle.model.specs.Walk.{back_kv}
use Rattle.model.specs.State.{State}
use Rattle.model.specs.Promise.{Holds}
use Rattle.model.proofs.Forward.{forward}
use Rattle.navigate.specs.Places.{EdgeAt}
use Rattle.walking.proofs.Spots.{last_arrives}
use Rattle.cursor.proofs.Moves.{end_edge, back_in}
use Rattle.cursor.proofs.from_end.Goals as goal
use Rattle.cursor.proofs.from_end.Goals.{After-lower_leaf_edge-edge}

-- the leaf edge where the step begins
abbrev from : (c : After-lower_leaf_edge-edge) {s : State} → Holds c.args.a.now s → EdgeAt s c.lower_leaf_edge-edge.result
from c {s} o = end_edge o _ (c.lower_leaf_edge-edge.ensures s o)

pub next_back_kv-to-requires : goal.next_back_kv-to-requires
next_back_kv-to-requires c = let o = forward _ c.requires in record { state = _; holds = o; there = from c o }

pub arrive-requires : goal.arrive-requires
arrive-requires c =
    let o = forward _ c.requires in
    let y = from (goal.at.arrive-requires c).After-lower_leaf_edge-edge o in
    record { state = _; holds = o; there = record { spot = back_kv y.way; inside = back_in y; is = c.next_back_kv-to.ensures _ o y } }

pub returns : goal.returns
returns c = λ s o n. let y = from (goal.at.returns c).After-lower_leaf_edge-edge o in c.arrive.ensures s o (back_kv y.way) (back_in y) (c.next_back_kv-to.ensures s o y) n ∙ sym (last_arrives o n)
