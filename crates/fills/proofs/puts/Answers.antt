-- `fills::puts` meets its contract.
-- Assumes nothing.
use Rattle.std.proofs.Common.{ℕ, ◌≡◌, Option, Result, refl, sym, ap, ◌∙◌, arith}
use Rattle.model.specs.declared.Answer.{Answer}
use Rattle.model.specs.declared.Refused.{Refused}
use Rattle.model.specs.Answer.{numbers_of, said_former}
use Rattle.fills.specs.Filling.{all_tried, no_room, came_in}
use Rattle.fills.proofs.puts.Goals as goal

-- the number of what was put
number_of : (r : Result (Option ℕ) Refused) {x : Answer} {n : ℕ} → x ≡ said_former r → n ≡ (numbers_of x).number → n ≡ (numbers_of (said_former r)).number
number_of r e f = f ∙ ap (λ (a : Answer). (numbers_of a).number) e

pub returns-then-number-eq-NO_ROOM : goal.returns-then-number-eq-NO_ROOM
returns-then-number-eq-NO_ROOM c =
    c.loop-i.invariant.joins _ _ (no_room _ (omega arith) c.put.ensures (sym (number_of c.put.result c.former-r.ensures c.number.ensures) ∙ c.if-number-eq-NO_ROOM.true) refl)

pub loop-i-preserved : goal.loop-i-preserved
loop-i-preserved c = record {
  below = omega arith;
  joins = λ w' r f. c.loop-i.invariant.joins w' r (came_in _ c.put.new.a c.around-key.result (omega arith) c.put.ensures (λ e. c.if-number-eq-NO_ROOM.false (number_of c.put.result c.former-r.ensures c.number.ensures ∙ e)) c.around-key.ensures.1 f);
}

pub returns : goal.returns
returns c = c.loop-i.invariant.joins _ _ (all_tried (omega arith) refl (omega arith))
