-- `append::tell` meets its contract.
-- Assumes nothing.
use lib.Dec.{lit<}
use Rattle.model.specs.Layout.{pairs_word, seen_word, mark_word}
use Rattle.store.proofs.Chain.{head_put}
use Rattle.append.proofs.tell.Goals as goal

pub returns : goal.returns
returns c = λ h ns a. head_put (head_put (head_put a pairs_word _ (lit< tt)) seen_word _ (lit< tt)) mark_word _ (lit< tt)
