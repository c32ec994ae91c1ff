-- `inspect::rest_zero` meets its contract: the words for pairs that are not in use are 0 exactly when all of them ored are.
-- Assumes nothing.
use Rattle.std.proofs.Common.{ℕ, ◌≤◌, ◌<◌, ◌+◌, eq-or-lt_of_le, arith, ◌≡◌, sym, ◌∙◌, ⊎_elim, bit_or, eqb, get_or, List}
use Rattle.model.specs.Layout.{most, keys_word, values_word}
use Rattle.inspect.proofs.Words.{or_left, or_right, or_both, rest_bare, bare_rest}
use Rattle.inspect.proofs.Decisions.{decides_as, equal, apart}
use Rattle.inspect.proofs.rest_zero.Invariants.{Ored}
use Rattle.inspect.proofs.rest_zero.Goals as goal

ored_more : (w : List ℕ) (b f t all x : ℕ) → t < most
    → let y = bit_or (get_or w (b + (keys_word + t)) 0) (get_or w (b + (values_word + t)) 0) in (f ≤ t → x ≡ y) × (t < f → x ≡ 0)
    → Ored w b f t all → Ored w b f (t + 1) (bit_or all x)
ored_more w b f t all x l q o =
    let k = get_or w (b + (keys_word + t)) 0 in
    let v = get_or w (b + (values_word + t)) 0 in
    record {
      clear = λ z i d u. ⊎_elim
          (λ s. let m : f ≤ t = omega arith in let y = sym (q.0 m) ∙ or_right all x z in rw s (or_left k v y, or_right k v y))
          (λ m. o.clear (or_left all x z) i d m)
          (eq-or-lt_of_le (let m : i ≤ t = omega arith in m));
      none = λ z. or_both all x (o.none z) (apart t f q.1 (λ m. q.0 m ∙ or_both k v (z t m l).0 (z t m l).1));
    }

pub loop-i-preserved : goal.loop-i-preserved
loop-i-preserved g c = ored_more _ _ _ _ _ _ (omega arith) c.kept-all.ensures c.loop-i.invariant

pub returns : goal.returns
returns g c =
    let l = c.loop-i in
    let x = c.args in
    decides_as (eqb l.all 0)
    (λ e. bare_rest g.F.Format.layout x.arena.now.words.now x.node.0 x.n c.base-b.ensures (λ k f t. l.invariant.clear e k f (omega arith)))
    (λ z. l.invariant.none (rest_bare g.F.Format.layout x.arena.now.words.now x.node.0 x.n c.base-b.ensures z))
    (equal l.all 0)
