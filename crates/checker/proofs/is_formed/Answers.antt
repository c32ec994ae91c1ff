-- `checker::is_formed` meets its contract: it says true exactly for well-formed words.
-- Assumes nothing.
use Rattle.inspect.proofs.Decisions.{decides_as}
use Rattle.checker.proofs.Whole.{formed, formed_heading, formed_passes, formed_finished}
use Rattle.checker.proofs.is_formed.Goals as goal

pub returns-in_default : goal.returns-in_default
returns-in_default g c = λ f. c.in_default.ensures (formed_heading f)

pub returns-in_default-walk_tree : goal.returns-in_default-walk_tree
returns-in_default-walk_tree g c = λ f. (rw c.in-Some.ensures.1 at c.in_default-walk_tree.ensures) (formed_passes f)

pub returns : goal.returns
returns g c =
    let h = c.in-Some.ensures.0 in
    let e = c.in-Some.ensures.1 in
    let s = rw e at c.in-Some-walk_tree.ensures in
    decides_as c.finished.result (λ f. formed h s.0 _ s.1 f) (λ f. formed_finished f _ s.1) (rw e at c.finished.ensures)
