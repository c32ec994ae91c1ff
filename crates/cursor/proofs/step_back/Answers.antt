-- `cursor::step_back` meets its contract.
-- Assumes nothing.
use Rattle.std.proofs.Common.{◌∙◌}
use Rattle.model.specs.Walk.{back_kv}
use Rattle.model.specs.State.{State}
use Rattle.model.specs.Promise.{Holds}
use Rattle.model.proofs.Forward.{forward}
use Rattle.navigate.specs.Places.{EdgeAt, KvAt}
use Rattle.walking.proofs.Live.{live_at}
use Rattle.cursor.proofs.Moves.{kv_of, edge_before, back_in, back_told}
use Rattle.cursor.proofs.step_back.Goals as goal
use Rattle.cursor.proofs.step_back.Goals.{After-height_of-height, After-next_back_leaf_edge-edge, at-After-next_back_leaf_edge-edge}

-- the place, and the leaf edge beside its pair
abbrev here : (c : After-height_of-height) {s : State} → Holds c.args.a.now s → KvAt s (record { node = c.args.node; height = c.height_of-height.result; at = c.args.at })
here c {s} o = kv_of o c.args.node c.args.at c.requires.1 c.height_of-height.result (c.height_of-height.ensures s o)

abbrev from : (c : After-next_back_leaf_edge-edge) {s : State} → Holds c.args.a.now s → EdgeAt s c.next_back_leaf_edge-edge.result
from c {s} o = edge_before (here (at-After-next_back_leaf_edge-edge c).After-height_of-height o) _ (c.next_back_leaf_edge-edge.ensures s o (here (at-After-next_back_leaf_edge-edge c).After-height_of-height o))

pub height_of-height-requires : goal.height_of-height-requires
height_of-height-requires c =
    let o = forward _ c.requires.0 in
    let a = live_at o _ c.requires.1 in
    record { state = _; holds = o; there = record { height = a.0; place = a.1 } }

pub next_back_leaf_edge-edge-requires : goal.next_back_leaf_edge-edge-requires
next_back_leaf_edge-edge-requires c = let o = forward _ c.requires.0 in record { state = _; holds = o; there = here c o }

pub next_back_kv-requires : goal.next_back_kv-requires
next_back_kv-requires c = let o = forward _ c.requires.0 in record { state = _; holds = o; there = from c o }

pub arrive-requires : goal.arrive-requires
arrive-requires c =
    let o = forward _ c.requires.0 in
    let y = from (goal.at.arrive-requires c).After-next_back_leaf_edge-edge o in
    record { state = _; holds = o; there = record { spot = back_kv y.way; inside = back_in y; is = c.next_back_kv.ensures _ o y } }

pub returns : goal.returns
returns c = λ s o n. let y = from (goal.at.returns c).After-next_back_leaf_edge-edge o in c.arrive.ensures s o (back_kv y.way) (back_in y) (c.next_back_kv.ensures s o y) n ∙ back_told (here (goal.at.returns c).After-height_of-height o) o n
