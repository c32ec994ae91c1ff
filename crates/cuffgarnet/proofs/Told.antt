-- What an exported call writes out of an answer, a number or a pair that its promise allows.
-- Assumes nothing.
use Rattle.std.proofs.Common.{◌≡◌, ℕ, ap, ◌∙◌}
use Rattle.model.specs.declared.Answer.{Answer}
use Rattle.model.specs.declared.Counted.{Counted}
use Rattle.model.specs.declared.Picked.{Picked}
use Rattle.model.specs.Answer.{numbers_of}
use Rattle.cuffgarnet.specs.Exported.{Numbered, Worded, Summed, Paired}

pub numbered : {P : Answer → Type 0} {x y : Answer} {n : ℕ} → P y → x ≡ y → n ≡ (numbers_of x).number → Numbered P n
numbered {y = y} p e f = record { answer = y; given = p; number_is = f ∙ ap (λ (a : Answer). (numbers_of a).number) e }

pub worded : {P : Answer → Type 0} {x y : Answer} {n v : ℕ} → P y → x ≡ y → n ≡ (numbers_of x).number → v ≡ (numbers_of x).word → Worded P n v
worded {y = y} p e f g = record { answer = y; given = p; number_is = f ∙ ap (λ (a : Answer). (numbers_of a).number) e; second_is = g ∙ ap (λ (a : Answer). (numbers_of a).word) e }

pub summed : {P : Counted → Type 0} {x y : Counted} {n v : ℕ} → P y → x ≡ y → n ≡ (numbers_of x.answer).number → v ≡ x.number → Summed P n v
summed {y = y} p e f g = record { counted = y; given = p; number_is = f ∙ ap (λ (c : Counted). (numbers_of c.answer).number) e; second_is = g ∙ ap (λ (c : Counted). c.number) e }

pub paired : {P : Picked → Type 0} {x y : Picked} {n k v : ℕ} → P y → x ≡ y → n ≡ (numbers_of x.answer).number → k ≡ x.key → v ≡ (numbers_of x.answer).word → Paired P n k v
paired {y = y} p e f g h =
    record {
      picked = y;
      given = p;
      number_is = f ∙ ap (λ (c : Picked). (numbers_of c.answer).number) e;
      key_is = g ∙ ap (λ (c : Picked). c.key) e;
      value_is = h ∙ ap (λ (c : Picked). (numbers_of c.answer).word) e;
    }
