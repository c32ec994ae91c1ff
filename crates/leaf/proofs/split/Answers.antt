-- `leaf::split` meets its contract.
-- Assumes nothing.
use Prim.Native.Nat.{ℕ}
use mathlib.Core.Path.{◌≡◌, ◌∙◌}
use mathlib.Core.List.{List}
use Rattle.model.specs.Layout.{leaf, NodeVal, Arena}
use Rattle.model.specs.Nodes.{taken}
use Rattle.store.specs.Links.{take_head, take_node}
use Rattle.leaf.specs.Split.{CutReady}
use Rattle.leaf.proofs.Cutting.{to_split, pair_same, pairs_cut, leaf_split}
use Rattle.leaf.proofs.split.Goals as goal
use Rattle.leaf.proofs.split.Goals.{After-take_node-right}

-- the node that was taken, and the arena then
new : (c : After-take_node-right) → let x = c.args in (h : List ℕ) (ns : List NodeVal) (free : List ℕ) → CutReady h ns free x.n.0 x.at.0 → Arena x.a.now h ns → (c.take_node-right.result.0 ≡ taken free) × Arena c.take_node-right.new.a (take_head h free) (take_node ns free leaf)
new c h ns free r a = c.take_node-right.ensures h ns free r.take a

pub split_leaf_data-kv-requires : goal.split_leaf_data-kv-requires
split_leaf_data-kv-requires c =
    let p = c.requires in
    let t = new (goal.at.split_leaf_data-kv-requires c).After-take_node-right p.head p.nodes p.holds.0 p.holds.1 p.arena in
    record { head = _; nodes = _; arena = t.1; holds = rw t.0 (to_split p.head p.nodes p.holds.0 _ _ leaf p.holds.1) }

pub returns : goal.returns
returns c =
    λ h ns free r l a.
    let x = c.args in
    let t = new (goal.at.returns c).After-take_node-right h ns free r a in
    let d = c.split_leaf_data-kv.ensures (take_head h free) _ (rw t.0 (to_split h ns free x.n.0 x.at.0 leaf r)) t.1 in
    (record { right_is = t.0; risen_is = d.0 ∙ pair_same h ns free x.n.0 x.at.0 leaf r }, rw (t.0, pairs_cut h ns free x.n.0 x.at.0 leaf r, leaf_split h ns free x.n.0 x.at.0 r l) at d.1)
