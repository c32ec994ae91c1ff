use Rattle.std.proofs.Common.{◌≡◌, ℕ, ◌+◌, ◌<◌, List, length, get_or, set, refl, ap, ◌∙◌, arith}
use Rattle.columns.proofs.Turns.{mix, mix_up, lessened, lessened_long, close_kept, close_moved, closed}
use Rattle.columns.proofs.close_words.Goals as goal
use Rattle.columns.proofs.close_words.Goals.{then-at-j, else-at-j}

pub loop-j-preserved : goal.loop-j-preserved
loop-j-preserved c =
    let l = c.loop-j in
    let s = c.args.s.now in
    let i = c.args.at in
    let o : i < length s = omega (arith, c.requires) in
    let v : get_or l.s c.if-at-j.from 0 ≡ get_or (lessened s i) l.j 0 =
    elim c.if-at-j.branch [
      | then-at-j w ↦ ap (λ (k : ℕ). get_or l.s k 0) w.from-is ∙ (ap (λ (t : List ℕ). get_or t (l.j + 1) 0) l.invariant ∙ close_moved s i o l.j w.if-at-j.true)
      | else-at-j w ↦ ap (λ (k : ℕ). get_or l.s k 0) w.from-is ∙ (ap (λ (t : List ℕ). get_or t l.j 0) l.invariant ∙ close_kept s i o l.j w.if-at-j.false)
    ] in
    ap (λ (t : List ℕ). set t l.j (get_or l.s c.if-at-j.from 0)) l.invariant
    ∙ mix_up (lessened s i) s l.j (get_or l.s c.if-at-j.from 0) (omega (arith, c.requires, c.loop-j-test.true)) (lessened_long s i o) v

pub returns : goal.returns
returns c =
    let l = c.loop-j in
    let s = c.args.s.now in
    let i = c.args.at in
    let z : l.j ≡ 10 = omega (arith, c.loop-j-test.false) in
    (refl, ap (λ (t : List ℕ). set t 10 0) (l.invariant ∙ ap (mix (lessened s i) s) z) ∙ closed s i (omega (arith, c.requires)) 10 (omega (arith, c.requires)))
