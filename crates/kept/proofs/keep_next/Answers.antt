-- `kept::keep_next` meets its contract.
-- Assumes nothing.
use Rattle.std.proofs.Common.{inr}
use Rattle.std.proofs.lemmas.Result.{err_from_is_err_and}
use Rattle.model.specs.Public.{Promised}
use Rattle.model.specs.Public as promise
use Rattle.cursor.specs.Cursors.{cursor_of}
use Rattle.kept.proofs.Four.{step_refused}
use Rattle.kept.proofs.keep_next.Goals as goal

pub returns-in_err-pair : goal.returns-in_err-pair
returns-in_err-pair c =
    let p = err_from_is_err_and c.from_residual-in_err-pair.result c.from_residual-in_err-pair.ensures.1 in
    let k = c.in_ok-read in
    let f = c.next-found in
    rw (p.1, p.2) (inr ((λ b. b k.ensures.0), step_refused (λ d. Promised (promise.next c.args.changes d) c.args.a.now c.args.a.now) c.args.words.now (cursor_of k.field-0) (cursor_of f.result.0) k.ensures.1 f.result.1 _ c.in_err-pair.was f.ensures))
