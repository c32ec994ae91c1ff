-- What was read before and what is read now lie one after the other at the front of the buffer.
-- Assumes nothing.
use Rattle.std.proofs.Common.{◌≡◌, ℕ, ◌+◌, ◌-◌, ◌≤◌, List, ◌++◌, rules, length, take, ap, subst, sym, ◌∙◌, length-take-le}
use Rattle.std.specs.Io.KnownBytes.{Consumes}
use Rattle.std.proofs.KnownBytes.{Consumes-trans}
use borrow.Rule.Slice.PartMut.{put_mid, post_of}
use Rattle.std.proofs.Math.Seq.{take-append-add}
use Rattle.std.proofs.lemmas.List.{take-append-le}
use Rattle.telling.proofs.read_full.Goals as goal

-- n bytes of those written over the buffer from `a` on follow the first `a`
read_on : (a k n : ℕ) (xs ys : List ℕ) → a ≤ length xs → n ≤ length ys → take a xs ++ take n ys ≡ take (a + n) (put_mid a k xs ys)
read_on a k n xs ys within fits =
    let rest = post_of a k xs in
    sym
    (ap (λ (m : ℕ). take (m + n) (put_mid a k xs ys)) (sym (length-take-le a xs within)) ∙ take-append-add (take a xs) (ys ++ rest) n
    ∙ ap (λ (l : List ℕ). take a xs ++ l) (take-append-le n ys rest fits))

pub loop-done-preserved : goal.loop-done-preserved
loop-done-preserved g c =
    let p = c.loop-done in
    let n = c.in_ok-n.n in
    (search rules, subst (Consumes _ _) (read_on p.done (length p.buf - p.done) n p.buf c.read.new.buf (search rules) (search rules)) (Consumes-trans _ _ _ _ _ p.invariant.1 c.in_ok-n.ensures.bytes.0))
