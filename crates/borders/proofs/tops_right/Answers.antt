-- `borders::tops_right` meets its contract.
-- Assumes nothing.
use lib.Dec.{lit≤}
use Rattle.model.specs.Lists.{pad, one}
use Rattle.model.specs.Layout.{word_at_by, node_words_by, frame, arena_by}
use Rattle.model.specs.Insert.{right}
use Rattle.model.specs.Words.{words_of_by}
use Rattle.model.specs.WellFormed.{chain_from_by}
use Rattle.borders.proofs.Short.{short, short_on}
use Rattle.borders.proofs.tops_right.Goals as goal

pub right-requires : goal.right-requires
unfolding short word_at_by chain_from_by words_of_by arena_by node_words_by frame pad one
right-requires g c = (lit≤ tt, short_on right tt)

pub right-requires-2 : goal.right-requires-2
unfolding short word_at_by chain_from_by words_of_by arena_by node_words_by frame pad one
right-requires-2 g c = (lit≤ tt, short_on right tt)

pub right-requires-3 : goal.right-requires-3
unfolding short word_at_by chain_from_by words_of_by arena_by node_words_by frame pad one
right-requires-3 g c = (lit≤ tt, short_on right tt)
