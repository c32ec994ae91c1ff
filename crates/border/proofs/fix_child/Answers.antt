-- `border::fix_child` meets its contract: the border child and its sibling, merged, left alone or stocked.
-- Assumes nothing.
use Rattle.std.proofs.Common.{arith, sym, ◌∙◌}
use Rattle.fix.proofs.Balances.{sides_known, merges_is, merges}
use Rattle.border.proofs.Sides.{stock_merged, here, child_in, left_alone, stealing_in, stocked}
use Rattle.border.proofs.fix_child.Goals as goal

pub can_merge-requires : goal.can_merge-requires
can_merge-requires c = sides_known (here c.args.border c.requires.coming c.border_kv-sibling.ensures c.neighbours-context.ensures).both

pub do_merge-requires : goal.do_merge-requires
do_merge-requires c =
    let q = here c.args.border c.requires.coming c.border_kv-sibling.ensures c.neighbours-context.ensures in
    merges q.both (sym (merges_is q.both) ∙ (sym c.can_merge.ensures ∙ c.if-can_merge.true))

pub returns-then-can_merge : goal.returns-then-can_merge
returns-then-can_merge c =
    λ h r t x.
    let q = here c.args.border x c.border_kv-sibling.ensures c.neighbours-context.ensures in
    stock_merged q (sym (merges_is q.both) ∙ (sym c.can_merge.ensures ∙ c.if-can_merge.true)) c.do_merge.ensures

pub len-k-requires : goal.len-k-requires
len-k-requires c = child_in c.args.border c.requires.coming c.border_kv-sibling.ensures c.neighbours-context.ensures c.border_child-child.ensures

pub bulk_steal-requires : goal.bulk_steal-requires
bulk_steal-requires c =
    let q = here c.args.border c.requires.coming c.border_kv-sibling.ensures c.neighbours-context.ensures in
    stealing_in c.args.border c.requires.coming c.border_kv-sibling.ensures c.neighbours-context.ensures c.border_child-child.ensures
    (sym (merges_is q.both) ∙ (sym c.can_merge.ensures ∙ c.if-can_merge.false)) _ c.len-k.ensures c.if-k-le-MIN_LEN.true _ (omega arith)

pub returns-then-k-le-MIN_LEN : goal.returns-then-k-le-MIN_LEN
returns-then-k-le-MIN_LEN c =
    λ h r t x.
    let q = here c.args.border x c.border_kv-sibling.ensures c.neighbours-context.ensures in
    stocked c.args.border x c.border_kv-sibling.ensures c.neighbours-context.ensures c.border_child-child.ensures
    (sym (merges_is q.both) ∙ (sym c.can_merge.ensures ∙ c.if-can_merge.false)) _ c.len-k.ensures c.if-k-le-MIN_LEN.true _ (omega arith) c.bulk_steal.ensures

pub returns-else-k-le-MIN_LEN : goal.returns-else-k-le-MIN_LEN
returns-else-k-le-MIN_LEN c =
    λ h r t x.
    let q = here c.args.border x c.border_kv-sibling.ensures c.neighbours-context.ensures in
    left_alone c.args.border x c.border_kv-sibling.ensures c.neighbours-context.ensures c.border_child-child.ensures
    (sym (merges_is q.both) ∙ (sym c.can_merge.ensures ∙ c.if-can_merge.false)) _ c.len-k.ensures c.if-k-le-MIN_LEN.false
