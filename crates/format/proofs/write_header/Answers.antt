-- `format::write_header` meets its contract.
-- Assumes nothing.
use Rattle.std.proofs.Common.{ℕ, refl, ◌∙◌, ap, arith}
use lib.ListN.{replicate, length-set}
use Rattle.format.proofs.Formatted.{header_words}
use Rattle.format.proofs.write_header.Goals as goal

pub bounds-s-6 : goal.bounds-s-6
bounds-s-6 c = simp length-set (omega arith)

pub bounds-s-7 : goal.bounds-s-7
bounds-s-7 c = simp length-set (omega arith)

pub returns : goal.returns
returns c =
    let x = c in
    header_words _ x.args.count _ _ x.requires.1 (c.fill.ensures.after (λ y e. e) ∙ ap (λ (n : ℕ). replicate n 0) x.requires.0) c.next-first.ensures refl
