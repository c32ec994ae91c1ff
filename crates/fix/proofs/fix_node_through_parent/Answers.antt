-- `fix::fix_node_through_parent` meets its contract: one pairing of the short node and its sibling serves all needs.
-- Assumes nothing.
use Rattle.std.proofs.Common.{◌≡◌, ◌+◌, length, leb, false, arith, sym, ◌∙◌}
use Rattle.model.specs.Layout.{most, word_at, length_word}
use Rattle.model.specs.Nodes.{Grown}
use Rattle.model.specs.Remove.{can_merge}
use Rattle.standing.specs.Heads.{Rest}
use Rattle.fix.specs.Repairs.{side_of, both_of, Mending}
use Rattle.fix.proofs.Choices.{mending_within, mending_long}
use Rattle.fix.proofs.Balances.{Pairing, sides_known, merges_is, merges, merge_held, lend_in, lend_held, enough, at_root, root_empty, pairing}
use Rattle.fix.proofs.fix_node_through_parent.Goals as goal
use Rattle.fix.proofs.fix_node_through_parent.Goals.{After-neighbours-context, After-can_merge, at-After-can_merge}

pub len-n-requires : goal.len-n-requires
len-n-requires c = mending_within c.requires.mending

pub returns-then-n-ge-MIN_LEN : goal.returns-then-n-ge-MIN_LEN
returns-then-n-ge-MIN_LEN c = λ g t m. enough m (omega (arith, c.if-n-ge-MIN_LEN.true, c.len-n.ensures, mending_long m))

pub returns-then-n-gt0 : goal.returns-then-n-gt0
returns-then-n-gt0 c = λ g t m. at_root m (sym c.in_default.is ∙ c.choose_parent_kv.ensures g t m) (omega (arith, c.if-n-gt0.true, c.len-n.ensures, mending_long m))

pub returns-else-n-gt0 : goal.returns-else-n-gt0
returns-else-n-gt0 c = λ g t m. root_empty m (sym c.in_default.is ∙ c.choose_parent_kv.ensures g t m) (omega (arith, c.if-n-gt0.false, c.len-n.ensures, mending_long m))

-- the node and its sibling, at whichever side that is
pair : (c : After-neighbours-context) (g : Rest) (t : Grown) → (m : Mending c.args.a.now g c.args.node.0 t) → Pairing (side_of c.in-Some.sibling) c.args.a.now g t (both_of c.in-Some.sibling) (length m.tree.rest)
pair c g t m = pairing m (omega (arith, c.if-n-ge-MIN_LEN.false, c.len-n.ensures, mending_long m)) c.in-Some.sibling (c.in-Some.ensures g t m)

-- the same of the neighbours as the code has them
pair_here : (c : After-neighbours-context) (g : Rest) (t : Grown) → (m : Mending c.args.a.now g c.args.node.0 t) → Pairing (side_of c.in-Some.sibling) c.args.a.now g t c.neighbours-context.result (length m.tree.rest)
pair_here c g t m = rw c.neighbours-context.ensures (pair c g t m)

-- what was said of them
said : (c : After-can_merge) → c.can_merge.result ≡ leb (word_at c.args.a.now (both_of c.in-Some.sibling).left.0 length_word + 1 + word_at c.args.a.now (both_of c.in-Some.sibling).right.0 length_word) most
said c = rw c.neighbours-context.ensures at c.can_merge.ensures

apart : (c : After-can_merge) (g : Rest) (t : Grown) → (m : Mending c.args.a.now g c.args.node.0 t) → c.can_merge.result ≡ false → can_merge (pair (at-After-can_merge c).After-neighbours-context g t m).both.twin ≡ false
apart c g t m e = sym (merges_is (pair (at-After-can_merge c).After-neighbours-context g t m).both) ∙ (sym (said c) ∙ e)

pub can_merge-requires : goal.can_merge-requires
can_merge-requires c = let p = c.requires in sides_known (pair_here c p.rest p.end p.mending).both

pub do_merge-requires : goal.do_merge-requires
do_merge-requires c =
    let p = c.requires in
    let q = pair_here (goal.at.do_merge-requires c).After-neighbours-context p.rest p.end p.mending in
    merges q.both (sym (merges_is q.both) ∙ (sym c.can_merge.ensures ∙ c.if-can_merge.true))

pub returns-then-can_merge : goal.returns-then-can_merge
returns-then-can_merge c =
    λ g t m.
    let q = pair_here (goal.at.returns-then-can_merge c).After-neighbours-context g t m in
    merge_held q (sym (merges_is q.both) ∙ (sym c.can_merge.ensures ∙ c.if-can_merge.true)) c.do_merge.ensures

pub bulk_steal-requires : goal.bulk_steal-requires
bulk_steal-requires c =
    let p = c.requires in
    let m = p.mending in
    let q = pair (goal.at.bulk_steal-requires c).After-neighbours-context p.rest p.end m in
    lend_in q (apart (goal.at.bulk_steal-requires c).After-can_merge p.rest p.end m c.if-can_merge.false) _ (omega (arith, q.lacks, c.len-n.ensures, mending_long m))

pub returns : goal.returns
returns c =
    λ g t m.
    let q = pair (goal.at.returns c).After-neighbours-context g t m in
    lend_held q (apart (goal.at.returns c).After-can_merge g t m c.if-can_merge.false) _ (omega (arith, q.lacks, c.len-n.ensures, mending_long m)) c.bulk_steal.ensures
