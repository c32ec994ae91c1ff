-- `append::rises` meets its contract: each chunk and the next decide.
-- Assumes nothing.
use Rattle.std.proofs.Common.{◌≡◌, ◌/◌, ℕ, List, length, get_or, arith, rules}
use Rattle.std.specs.Simd.{first_chunks}
use lib.Dec.{ltb}
use Rattle.std.proofs.lemmas.Fn.{always_returns_same}
use Rattle.append.proofs.Chunks.{rising_decided}
use Rattle.append.proofs.rises.Goals as goal

pub returns : goal.returns
returns c =
    let run = c.args.run.now in
    let e : c.as_chunks.result.0.now ≡ first_chunks 2 (length run / 2) run = c.as_chunks.ensures.front in
    rising_decided _ (length run / 2) run (omega (arith, c.requires.is)) (rw e at (c.is_sorted_by.ensures.cases (λ (x y : List ℕ). ltb (get_or x 0 0) (get_or y 0 0)) (always_returns_same _ _ _ (λ a r q k. search rules))))
