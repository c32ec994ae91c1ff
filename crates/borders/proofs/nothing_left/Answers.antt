-- `borders::nothing_left` meets its contract.
-- Assumes nothing.
use lib.Dec.{lit≤}
use Rattle.model.specs.Lists.{pad, one}
use Rattle.model.specs.Layout.{word_at_by, node_words_by, frame, arena_by}
use Rattle.model.specs.Insert.{left}
use Rattle.model.specs.Words.{words_of_by}
use Rattle.model.specs.WellFormed.{chain_from_by}
use Rattle.borders.proofs.Short.{short, short_on}
use Rattle.borders.proofs.nothing_left.Goals as goal

pub left-requires : goal.left-requires
unfolding short word_at_by chain_from_by words_of_by arena_by node_words_by frame pad one
left-requires g c = (lit≤ tt, short_on left tt)

pub left-requires-2 : goal.left-requires-2
unfolding short word_at_by chain_from_by words_of_by arena_by node_words_by frame pad one
left-requires-2 g c = (lit≤ tt, short_on left tt)
