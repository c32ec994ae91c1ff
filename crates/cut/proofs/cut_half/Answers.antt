-- `cut::cut_half` meets its contract.
-- Assumes nothing.
use Rattle.std.proofs.Common.{ap, ◌∙◌, length-set}
use Rattle.model.specs.Layout.{word_at, total_word}
use Rattle.model.proofs.Forward.{forward}
use Rattle.cutting.proofs.Through.{along_ready, sweep_ready, root_ready, cut_through}
use Rattle.cut.proofs.cut_half.Goals as goal

pub cut_along-requires : goal.cut_along-requires
cut_along-requires c =
    let x = c in
    let o = forward x.args.a.now x.requires in
    let d = c.lower_leaf_edge-edge in
    along_ready x.args.key o d.result (d.ensures _ o)

pub sweep-requires : goal.sweep-requires
sweep-requires c =
    let x = c in
    let o = forward x.args.a.now x.requires in
    let d = c.lower_leaf_edge-edge in
    sweep_ready x.args.key o d.result (d.ensures _ o) _ c.cut_along.ensures

pub total-requires : goal.total-requires
total-requires c =
    let x = c in
    let o = forward x.args.a.now x.requires in
    let d = c.lower_leaf_edge-edge in
    rw c.root.ensures (root_ready x.args.key o d.result (d.ensures _ o) _ c.cut_along.ensures _ c.sweep.ensures)

pub shape_of-a : goal.shape_of-a
shape_of-a c = simp length-set (c.sweep.auto.a ∙ c.cut_along.auto.a)

pub returns : goal.returns
returns c =
    λ s o.
    let x = c in
    let d = c.lower_leaf_edge-edge in
    cut_through x.args.key o d.result (d.ensures s o) _ c.cut_along.ensures _ c.sweep.ensures c.total.result (c.total.ensures ∙ ap (λ r. word_at c.sweep.new.a r total_word) c.root.ensures)
