-- `totals::settle` meets its contract.
-- Assumes nothing.
use Rattle.node.proofs.Reading.{within}
use Rattle.totals.proofs.Settling.{lone_inside, lone_shaped, settle_due, settle_lifts}
use Rattle.totals.proofs.settle.Goals as goal

pub total-was-requires : goal.total-was-requires
total-was-requires c = let p = c.requires in within p.arena _ (lone_inside p.nodes _ _ p.holds.lone)

pub due_of-is-requires : goal.due_of-is-requires
due_of-is-requires c =
    let p = c.requires in
    record { head = p.head; nodes = p.nodes; arena = p.arena; holds = (lone_shaped p.nodes _ _ p.holds.lone, settle_due p.arena p.holds) }

pub lift-requires : goal.lift-requires
lift-requires c =
    let p = c.requires in
    record { head = p.head; nodes = p.nodes; arena = p.arena; holds = settle_lifts p.arena p.holds c.total-was.ensures (c.due_of-is.ensures _ p.nodes (lone_shaped p.nodes _ _ p.holds.lone) p.arena) }

pub returns : goal.returns
returns c =
    λ h ns s a.
    let t = c in
    c.lift.ensures h ns (settle_lifts a s t.total-was.ensures (t.due_of-is.ensures h ns (lone_shaped ns _ _ s.lone) a)) a
