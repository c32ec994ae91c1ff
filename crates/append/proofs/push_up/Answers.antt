-- `append::push_up` meets its contract: up to a node with room, and a right side after the pair.
-- Assumes nothing.
use Prim.Native.Nat.{◌≤◌}
use mathlib.Core.Path.{◌≡◌}
use Rattle.node.specs.Reading.{pair_of}
use Rattle.standing.specs.Heads.{Rest}
use Rattle.model.specs.Load as load
use Rattle.loading.proofs.Pushing.{climb_filling}
use Rattle.appending.specs.Pushes.{LoadIn, Roomy, Building}
use Rattle.appending.proofs.Climbs.{rising_start}
use Rattle.appending.proofs.Sides.{roomy_place, open_within, open_fit, open_done}
use Rattle.append.proofs.push_up.Goals as goal
use Rattle.append.proofs.push_up.Goals.{After-open_node-open, After-right_side-right, at-After-right_side-right}

-- a node with room
roomy : (c : After-open_node-open) → let x = c.args in (g : Rest) (l : load.Loading) → LoadIn x.a.now g x.leaf.0 l → (load.push (pair_of x.kv) l).next ≤ g.size
    → Roomy c.open_node-open.new.a g c.open_node-open.result.node.0 c.open_node-open.result.levels (pair_of x.kv) (load.push (pair_of x.kv) l)
roomy c g l o room = c.open_node-open.ensures g _ _ (rising_start _ o room c.requires.1)

-- and the right side for it
built : (c : After-right_side-right) → let x = c.args in (g : Rest) (l : load.Loading) (o : LoadIn x.a.now g x.leaf.0 l) (room : (load.push (pair_of x.kv) l).next ≤ g.size)
    → let k = roomy (at-After-right_side-right c).After-open_node-open g l o room in (c.right_side-right.result.leaf.0 ≡ k.next) × Building c.right_side-right.new.a g (roomy_place k).way k.tree k.next c.open_node-open.result.levels c.right_side-right.result.top.0
built c g l o room = c.right_side-right.ensures (roomy_place (roomy (at-After-right_side-right c).After-open_node-open g l o room))

pub open_node-open-requires : goal.open_node-open-requires
open_node-open-requires c =
    let q = c.requires in
    record { rest = q.0.rest; pair = _; end = _; rising = rising_start _ q.0.load q.0.room q.1 }

pub right_side-right-requires : goal.right_side-right-requires
right_side-right-requires c =
    let q = c.requires.0 in
    roomy_place (roomy (goal.at.right_side-right-requires c).After-open_node-open q.rest q.so_far q.load q.room)

pub len-count-requires : goal.len-count-requires
len-count-requires c =
    let q = c.requires.0 in
    open_within (roomy (goal.at.len-count-requires c).After-open_node-open q.rest q.so_far q.load q.room) (built (goal.at.len-count-requires c).After-right_side-right q.rest q.so_far q.load q.room).1

pub push_edge-requires : goal.push_edge-requires
push_edge-requires c =
    let q = c.requires.0 in
    (open_fit (roomy (goal.at.push_edge-requires c).After-open_node-open q.rest q.so_far q.load q.room) (built (goal.at.push_edge-requires c).After-right_side-right q.rest q.so_far q.load q.room).1 _ c.len-count.ensures, c.len-count.ensures)

pub returns : goal.returns
returns c =
    λ g l o room.
    let k = roomy (goal.at.returns c).After-open_node-open g l o room in
    let b = built (goal.at.returns c).After-right_side-right g l o room in
    rw b.0 (open_done k b.1 _ c.len-count.ensures (climb_filling l.way tt _ l.next o.filling tt) _ c.push_edge.ensures)
