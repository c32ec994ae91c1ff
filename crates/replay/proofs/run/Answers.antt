-- `replay::run` meets its contract. A record that can't be told is done all the same.
-- Assumes nothing.
use Rattle.std.proofs.Common.{◌≡◌, ℕ, List, refl, sym, subst}
use Rattle.model.specs.declared.Answer.{Answer}
use Rattle.model.specs.Answer.{said_done}
use Rattle.model.specs.State.{order}
use Rattle.model.specs.Promise.{Call}
use Rattle.batch.specs.Orders.{order_of}
use Rattle.telling.specs.Numbers.{mix_all}
use Rattle.replay.specs.declared.Record.TheVariants.{Order}
use Rattle.replay.specs.Records.{Replays, Says, format_record, tell_record, fork_record, order_record}
use Rattle.replay.proofs.Failed.{on_err}
use Rattle.replay.proofs.run.Goals as goal

-- an order, as the record's words say
ordered : (w : ℕ × ℕ × ℕ) (code k v mix : ℕ) {u u' : List ℕ} {r : ℕ} (x : Answer) → Says w (Order code k v) → Call (order (order_of code k v)) u u' x → r ≡ mix_all mix u' → Replays w.0 w.1 w.2 mix u u' r
ordered w code k v mix {u} {u'} x s y e = order_record x s.1 s.2 s.3 s.4 (subst (λ (t : ℕ × ℕ × ℕ). Call (order (order_of t.0 t.1 t.2)) u u' x) (sym s.0) y) e

pub returns-in_err-say_answer-in-Format-clause-err : goal.returns-in_err-say_answer-in-Format-clause-err
returns-in_err-say_answer-in-Format-clause-err g c = on_err c.from_residual.result (_, format_record (said_done c.format.result) c.in-Format.ensures c.format.ensures refl)

pub returns-in_ok-say_answer-in-Format-clause-ok : goal.returns-in_ok-say_answer-in-Format-clause-ok
returns-in_ok-say_answer-in-Format-clause-ok g c = format_record (said_done c.format.result) c.in-Format.ensures c.format.ensures c.mix_words.ensures

pub returns-in_err-fork-in-Fork-clause-err : goal.returns-in_err-fork-in-Fork-clause-err
returns-in_err-fork-in-Fork-clause-err g c = on_err c.from_residual-in_err-fork-in-Fork.result (c.args.mix, fork_record c.in-Fork.ensures.0 refl refl)

pub returns-in_err-tell-in-Tell-clause-err : goal.returns-in_err-tell-in-Tell-clause-err
returns-in_err-tell-in-Tell-clause-err g c = on_err c.from_residual-in_err-tell-in-Tell.result (c.args.mix, tell_record c.in-Tell.ensures refl refl)

pub returns-in_err-say_answer-in-Order-clause-err : goal.returns-in_err-say_answer-in-Order-clause-err
returns-in_err-say_answer-in-Order-clause-err g c = on_err c.from_residual-in_err-say_answer-in-Order.result (_, ordered (c.args.code, c.args.k, c.args.v) c.in-Order.code c.in-Order.k c.in-Order.v c.args.mix c.order.result c.in-Order.ensures c.order.ensures refl)

pub returns-in_ok-say_answer-in-Order-clause-ok : goal.returns-in_ok-say_answer-in-Order-clause-ok
returns-in_ok-say_answer-in-Order-clause-ok g c = ordered (c.args.code, c.args.k, c.args.v) c.in-Order.code c.in-Order.k c.in-Order.v c.args.mix c.order.result c.in-Order.ensures c.order.ensures c.mix_words-in-Order.ensures
