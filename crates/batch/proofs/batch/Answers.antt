-- `batch::batch` meets its contract.
-- Assumes nothing.
use Rattle.std.proofs.Common.{◌/◌, length, arith, refl, inr}
use Rattle.model.specs.Promise.{Fits}
use Rattle.model.proofs.Forward.{forward}
use Rattle.batch.proofs.batch.Goals as goal

pub returns : goal.returns
returns c =
    let f : Fits c.args.orders.now c.args.answers.now = record { orders = length c.args.orders.now / 3; triple = omega (arith, c.if-orders-n.false); pair = omega (arith, c.if-answers-n.false) } in
    let w = c.in_ok-check.ensures.ok in
    let o = forward c.args.a.now w in
    let d = c.run_all.ensures _ o in
    inr ((λ b. b f), inr ((λ b. b w), record { state = _; holds = o; left = d.left; written = d.written; said = refl }))
