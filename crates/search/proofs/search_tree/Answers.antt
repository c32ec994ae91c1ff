use Rattle.std.proofs.Common.{◌≡◌, ◌-◌, length, refl, arith}
use Rattle.model.specs.Search as model
use Rattle.model.proofs.Forward.{forward}
use Rattle.model.proofs.Standing.{root_at}
use Rattle.search.proofs.Indexes.{is_kv, is_edge, index_end}
use Rattle.search.proofs.Descents.{at_within, keys_rise, keys_none, found, ended, onward, edge_low}
use Rattle.search.proofs.search_tree.Goals as goal
use Rattle.search.proofs.search_tree.Goals.{then-spread, else-spread}

pub levels-init : goal.levels-init
levels-init c =
    let x = c.args in
    λ s o. rw (c.root-node.ensures, c.height-height.ensures) (let r = root_at o (λ h d t. model.search x.key s.whole ≡ model.seek x.key h d t) refl in record { place = r.0; same = r.1 })

pub keys-part-requires : goal.keys-part-requires
keys-part-requires c =
    let o = forward c.args.a.now c.requires in
    at_within o (c.levels.invariant _ o).place

pub spread-requires : goal.spread-requires
spread-requires c =
    let o = forward c.args.a.now c.requires in
    (at_within o (c.levels.invariant _ o).place).0

pub halve-requires : goal.halve-requires
halve-requires c =
    let o = forward c.args.a.now c.requires in
    let q = c.keys-part in (
      elim c.if-spread.branch [
        | then-spread w ↦ record { place = 0; from = omega arith; inside = omega (arith, c.if-n-eq0.false); is = w.met-is }
        | else-spread w ↦ record { place = length q.result.now - 1; from = omega arith; inside = omega (arith, c.if-n-eq0.false); is = w.met-is }
      ],
      keys_rise o (c.levels.invariant _ o).place q.result.now q.ensures,
    )

pub edge-node-requires : goal.edge-node-requires
edge-node-requires c =
    let o = forward c.args.a.now c.requires in
    let y = c.levels.invariant _ o in
    let q = c.keys-part in
    ((at_within o y.place).0, edge_low o _ _ q.result.now q.ensures _ _ y (is_edge _ _ c.in-Edge.ensures))

pub levels-preserved : goal.levels-preserved
levels-preserved c = λ s o. onward o _ _ _ c.keys-part.ensures _ _ (c.levels.invariant s o) c.if-height-eq0.false (is_edge _ _ c.in-Edge.ensures) _ c.edge-node.ensures

pub returns-then-n-eq0 : goal.returns-then-n-eq0
returns-then-n-eq0 c = λ s o.
    let q = c.keys-part in
    let y = c.levels.invariant s o in
    let z = keys_none o y.place q.result.now q.ensures c.if-n-eq0.true in
    ended o _ _ q.result.now q.ensures 0 _ y z (index_end _ q.result.now 0 (omega (arith, c.if-n-eq0.true)))

pub returns-in-Kv : goal.returns-in-Kv
returns-in-Kv c = λ s o. found o _ _ _ c.keys-part.ensures _ _ (c.levels.invariant s o) (is_kv _ _ c.in-Kv.ensures)

pub returns-then-height-eq0 : goal.returns-then-height-eq0
returns-then-height-eq0 c = λ s o. ended o _ _ _ c.keys-part.ensures _ _ (c.levels.invariant s o) c.if-height-eq0.true (is_edge _ _ c.in-Edge.ensures)
