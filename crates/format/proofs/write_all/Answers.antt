-- `format::write_all` meets its contract.
-- Assumes nothing.
use Rattle.format.proofs.Formatted.{all_words}
use Rattle.format.proofs.write_all.Goals as goal

pub returns : goal.returns
returns c =
    let n = c.write_node in
    let h = c.write_header in
    let x = c in
    all_words h.new.s n.new.s _ _ x.args.count x.requires.some h.ensures n.ensures c.write_chain.ensures
