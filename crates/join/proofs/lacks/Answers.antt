use Rattle.std.proofs.Common.{◌∙◌, ap, arith}
use borrow.Author.Tests.{le-ltb}
use Rattle.model.specs.Room.{nodes_for}
use Rattle.inspect.proofs.Decisions.{less}
use Rattle.join.proofs.Joining.{count_of, enough, no_less}
use Rattle.join.proofs.lacks.Goals as goal

pub returns-then-nodes_for-count : goal.returns-then-nodes_for-count
returns-then-nodes_for-count c = λ s t h g. rw (c.count-count.ensures ∙ count_of h, c.nodes_for-then-nodes_for-count.ensures ∙ ap nodes_for (c.merge_count.ensures s t h g)) (less s.size _)

pub returns-else-nodes_for-count : goal.returns-else-nodes_for-count
returns-else-nodes_for-count c = λ s t h g.
    let l = enough h g c.args.pairs c.requires.2 (omega (arith, c.if-nodes_for-count.false, c.nodes_for.ensures, c.count-count.ensures)) in
    no_less (le-ltb _ _ c.if-nodes_for-count.false) (λ m. omega (arith, l, m))
