-- `serving::serve_bytes` meets its contract.
-- Assumes nothing.
use Rattle.std.proofs.Common.{ℕ, inl}
use mathlib.Core.Path.{subst₃}
use Rattle.model.specs.State.{order}
use Rattle.model.specs.Promise.{Call}
use Rattle.batch.specs.Orders.{order_of}
use Rattle.serving.proofs.serve_bytes.Goals as goal

pub returns : goal.returns
returns c =
    inl (
      c.if-b-lt-RECORD.false,
      subst₃
          (λ (code key val : ℕ). Call (order (order_of code key val)) c.args.a.now c.order.new.a c.order.result)
          c.word_at.ensures
          c.word_at-2.ensures
          c.word_at-3.ensures
          c.order.ensures,
    )
