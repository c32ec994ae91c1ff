-- `upgrade::upgrade` meets its contract.
-- Assumes nothing.
use Rattle.std.proofs.Common.{arith, ◌≡◌, sym, ap, ◌∙◌, length}
use Rattle.model.specs.declared.Layout.TheVariants.{Format1}
use Rattle.model.specs.Layout.{base, header, count_word}
use Rattle.model.specs.WellFormed.{WellFormedBy}
use Rattle.model.proofs.Upgrades.{upgrade_bad, upgrade_other, upgrade_done}
use Rattle.header.proofs.Headed.{headed}
use Rattle.inspect.proofs.Decisions.{decided, refuted}
use Rattle.upgrade.proofs.Upgraded.{source_sized, copied_arena, copied_tree, counted_words}
use Rattle.upgrade.proofs.upgrade.Goals as goal
use Rattle.upgrade.proofs.upgrade.Goals.{Else-not-well_formed_by, Else-target-node_base}

-- the source is well-formed; the target is as long
formed : (c : Else-not-well_formed_by) → WellFormedBy Format1 c.args.source.now
formed c = decided c.well_formed_by.result c.well_formed_by.ensures c.if-not-well_formed_by.false

long_as : (c : Else-target-node_base) → length c.args.target.now ≡ base (header c.args.source.now count_word)
long_as c = c.if-target-node_base.false ∙ (c.node_base.ensures ∙ ap base c.count-count.ensures)

pub returns-then-not-well_formed_by : goal.returns-then-not-well_formed_by
returns-then-not-well_formed_by c = upgrade_bad (refuted c.well_formed_by.result c.well_formed_by.ensures c.if-not-well_formed_by.true)

pub count-count-requires : goal.count-count-requires
count-count-requires c = headed (formed c)

pub node_base-requires : goal.node_base-requires
node_base-requires c = let s = source_sized (formed (goal.at.node_base-requires c).Else-not-well_formed_by) in omega (arith, s.few, c.count-count.ensures)

pub returns-then-target-node_base : goal.returns-then-target-node_base
returns-then-target-node_base c = upgrade_other (formed (goal.at.returns-then-target-node_base c).Else-not-well_formed_by) (λ e. c.if-target-node_base.true (e ∙ sym (c.node_base.ensures ∙ ap base c.count-count.ensures)))

pub copy_all-requires : goal.copy_all-requires
copy_all-requires c =
    let f = formed (goal.at.copy_all-requires c).Else-not-well_formed_by in
    let s = source_sized f in
    rw c.count-count.ensures (record { some = s.some; few = s.few; long_is = long_as (goal.at.copy_all-requires c).Else-target-node_base }, s)

pub root-requires : goal.root-requires
root-requires c = headed (formed (goal.at.root-requires c).Else-not-well_formed_by)

pub height-requires : goal.height-requires
height-requires c = headed (formed (goal.at.height-requires c).Else-not-well_formed_by)

pub count_node-requires : goal.count_node-requires
count_node-requires c =
    let f = formed (goal.at.count_node-requires c).Else-not-well_formed_by in
    record { head = _; nodes = _; arena = copied_arena f _ (rw c.count-count.ensures at c.copy_all.ensures); holds = rw (c.root.ensures, c.height.ensures) (copied_tree f) }

pub returns : goal.returns
returns c =
    let f = formed (goal.at.returns c).Else-not-well_formed_by in
    upgrade_done f (long_as (goal.at.returns c).Else-target-node_base) (counted_words f _ ((rw (c.root.ensures, c.height.ensures) at c.count_node.ensures) _ _ (copied_tree f) (copied_arena f _ (rw c.count-count.ensures at c.copy_all.ensures))))
