-- `upgrade::copy_node` meets its contract.
-- Assumes nothing.
use Rattle.std.proofs.Common.{ℕ, ap, ◌∙◌, List, ◌++◌, set, drop, arith, sym, length-take-le}
use Rattle.model.specs.Layout.{total_word}
use Rattle.upgrade.proofs.Copied.{node_words_lem}
use Rattle.upgrade.proofs.copy_node.Goals as goal

pub slice_bounds-copy_from_slice-end-2 : goal.slice_bounds-copy_from_slice-end-2
slice_bounds-copy_from_slice-end-2 c = sym (length-take-le total_word c.args.to.now (omega (arith, c.requires.1)))

pub copy_from_slice-requires : goal.copy_from_slice-requires
copy_from_slice-requires c = c.requires.0 ∙ sym (length-take-le total_word c.args.to.now (omega (arith, c.requires.1)))

pub returns : goal.returns
returns c = let x = c in ap (λ (l : List ℕ). set (l ++ drop total_word x.args.to.now) total_word 0) c.copy_from_slice.ensures ∙ node_words_lem x.args.from.now x.args.to.now x.requires.0 x.requires.1
