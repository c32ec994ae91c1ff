use Rattle.std.proofs.Common.{◌≡◌, ℕ, ◌+◌, ◌-◌, ◌<◌, List, length, get_or, set, sym, ap, ◌∙◌, arith}
use Rattle.columns.proofs.Turns.{mix, mix_down, doubled, doubled_long, turn_kept, turn_moved, turned}
use Rattle.columns.proofs.open_words.Goals as goal
use Rattle.columns.proofs.open_words.Goals.{then-at-j, else-at-j}

pub loop-j-preserved : goal.loop-j-preserved
loop-j-preserved c =
    let l = c.loop-j in
    let s = c.args.s.now in
    let i = c.args.at in
    let j = l.j - 1 in
    let o : i < length s = omega (arith, c.requires) in
    let b : j < length s = omega (arith, c.requires) in
    let z : l.j ≡ j + 1 = omega arith in
    let now : l.s ≡ mix s (doubled s i) (j + 1) = l.invariant.1 ∙ ap (mix s (doubled s i)) z in
    let v : get_or l.s c.if-at-j.from 0 ≡ get_or (doubled s i) j 0 =
    elim c.if-at-j.branch [
      | then-at-j w ↦ ap (λ (k : ℕ). get_or l.s k 0) w.from-is ∙ (ap (λ (t : List ℕ). get_or t (j - 1) 0) now ∙ turn_moved s i o j b w.if-at-j.true)
      | else-at-j w ↦ ap (λ (k : ℕ). get_or l.s k 0) w.from-is ∙ (ap (λ (t : List ℕ). get_or t j 0) now ∙ turn_kept s i o j b w.if-at-j.false)
    ] in
    (omega (arith, c.loop-j-test.true), ap (λ (t : List ℕ). set t j (get_or l.s c.if-at-j.from 0)) now ∙ mix_down s (doubled s i) j (get_or l.s c.if-at-j.from 0) (omega (arith, doubled_long s i o)) (sym (doubled_long s i o)) v)

pub returns : goal.returns
returns c =
    let l = c.loop-j in
    let s = c.args.s.now in
    let i = c.args.at in
    let z : l.j ≡ 1 = omega (arith, c.loop-j-test.false) in
    ap (λ (t : List ℕ). set t i c.args.x) (l.invariant.1 ∙ ap (mix s (doubled s i)) z) ∙ turned s i (omega (arith, c.requires)) c.args.x
