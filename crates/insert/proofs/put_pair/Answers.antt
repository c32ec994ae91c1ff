-- `insert::put_pair` meets its contract.
-- Assumes nothing.
use Rattle.std.proofs.Common.{refl}
use Rattle.model.specs.State.{State}
use Rattle.model.specs.Promise.{Holds}
use Rattle.model.proofs.Forward.{forward}
use Rattle.insert.proofs.Ends.{PairIn, GapIn, pair_in, gap_in, replace_in, replaced_in, lacking, enough, added_in}
use Rattle.insert.proofs.put_pair.Goals as goal
use Rattle.insert.proofs.put_pair.Goals.{In-Found, In-GoDown}

-- the pair that was found
there : (c : In-Found) (s : State) → Holds c.args.a.now s → PairIn c.args.kv.0 s c.in-Found.place
there c s o = pair_in o _ _ (c.in-Found.ensures s o)

-- the leaf edge where it is not
absent : (c : In-GoDown) (s : State) → Holds c.args.a.now s → GapIn c.args.kv.0 s c.in-GoDown.edge
absent c s o = gap_in o _ _ (c.in-GoDown.ensures s o)

pub replace_kv-old-requires : goal.replace_kv-old-requires
replace_kv-old-requires c =
    let x = c in
    let o = forward _ x.requires in
    replace_in o x.args.kv.0 x.args.kv.1 _ (there (goal.at.replace_kv-old-requires c).In-Found _ o)

pub returns-in-Found : goal.returns-in-Found
returns-in-Found c = λ s o. let x = c.args in replaced_in o x.kv.0 x.kv.1 _ (there (goal.at.returns-in-Found c).In-Found s o) _ _ c.replace_kv-old.ensures

pub nodes_needed-need-requires : goal.nodes_needed-need-requires
nodes_needed-need-requires c =
    let x = c in
    let o = forward _ x.requires in
    record { state = _; holds = o; there = (absent (goal.at.nodes_needed-need-requires c).In-GoDown _ o).edge }

pub returns-then-free-need : goal.returns-then-free-need
returns-then-free-need c =
    λ s o.
    let x = c.args in
    let y = absent (goal.at.returns-then-free-need c).In-GoDown s o in
    (lacking o x.kv.0 x.kv.1 _ y _ _ c.free_nodes-free.ensures (c.nodes_needed-need.ensures s o y.edge) c.if-free-need.true, refl)

pub insert_recursing-requires : goal.insert_recursing-requires
insert_recursing-requires c =
    let x = c in
    let o = forward _ x.requires in
    let y = absent (goal.at.insert_recursing-requires c).In-GoDown _ o in
    record { state = _; holds = o; there = record { edge = y.edge; room = enough o x.args.kv.0 x.args.kv.1 _ y _ _ c.free_nodes-free.ensures (c.nodes_needed-need.ensures _ o y.edge) c.if-free-need.false } }

pub returns-else-free-need : goal.returns-else-free-need
returns-else-free-need c =
    λ s o.
    let x = c.args in
    let y = absent (goal.at.returns-else-free-need c).In-GoDown s o in
    let n = c.nodes_needed-need.ensures s o y.edge in
    let l = c.if-free-need.false in
    let f = c.free_nodes-free.ensures in
    added_in o x.kv.0 x.kv.1 _ y _ _ f n l _ (c.insert_recursing.ensures s o (record { edge = y.edge; room = enough o x.kv.0 x.kv.1 _ y _ _ f n l }))
