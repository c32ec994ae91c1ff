-- `append::finish` meets its contract: the right border stocked, the counts set, the header written.
-- Assumes nothing.
use Rattle.std.proofs.Common.{List, ◌≡◌}
use Rattle.model.specs.Layout.{header, root_word, height_word}
use Rattle.model.specs.Tree.{Pair, plug}
use Rattle.model.specs.Load.{push_all, begun, plenty}
use Rattle.standing.specs.Heads.{Rest, ClosedBy, Uncounted}
use Rattle.appending.specs.Pushes.{free_from}
use Rattle.appending.specs.Runs.{Ended}
use Rattle.appending.proofs.Runs.{load_pushed}
use Rattle.appending.proofs.Finish.{Countable, countable, stocked_full, closed_head, finished}
use Rattle.append.proofs.finish.Goals as goal
use Rattle.append.proofs.finish.Goals.{After-fix_right_border_of_plentiful, After-height-below}

-- the border is stocked
stocked : (c : After-fix_right_border_of_plentiful) → let x = c.args in (g : Rest) (ps : List Pair) → Ended x.a.now g (push_all ps begun)
    → ClosedBy Uncounted c.fix_right_border_of_plentiful.new.a g (record { whole = plenty (plug (push_all ps begun).way tt); free = free_from g (push_all ps begun).next })
stocked c g ps e = c.fix_right_border_of_plentiful.ensures _ _ _ (load_pushed e.load)

-- the counts can be set
counts : (c : After-fix_right_border_of_plentiful) → let x = c.args in (g : Rest) (ps : List Pair) → Ended x.a.now g (push_all ps begun)
    → let w = c.fix_right_border_of_plentiful.new.a in Countable w g (plenty (plug (push_all ps begun).way tt)) (free_from g (push_all ps begun).next) (header w root_word) (header w height_word)
counts c g ps e = countable _ _ (stocked_full (load_pushed e.load)) (stocked c g ps e)

pub fix_right_border_of_plentiful-requires : goal.fix_right_border_of_plentiful-requires
fix_right_border_of_plentiful-requires c = record { rest = _; end = _; free = _; pushed = load_pushed c.requires.ended.load }

pub root-root-requires : goal.root-root-requires
root-root-requires c = closed_head (stocked (goal.at.root-root-requires c).After-fix_right_border_of_plentiful _ c.requires.pairs c.requires.ended)

pub height-below-requires : goal.height-below-requires
height-below-requires c = closed_head (stocked (goal.at.height-below-requires c).After-fix_right_border_of_plentiful _ c.requires.pairs c.requires.ended)

-- the root and the levels below it, as they were read
read : (c : After-height-below) → let w = c.fix_right_border_of_plentiful.new.a in (c.root-root.result.0 ≡ header w root_word) × (c.height-below.result ≡ header w height_word)
read c = (c.root-root.ensures, c.height-below.ensures)

pub count_node-requires : goal.count_node-requires
count_node-requires c = let e = read (goal.at.count_node-requires c).After-height-below in rw (e.0, e.1) (counts (goal.at.count_node-requires c).After-fix_right_border_of_plentiful _ c.requires.pairs c.requires.ended).asks

pub tell-requires : goal.tell-requires
tell-requires c = let e = read (goal.at.tell-requires c).After-height-below in closed_head ((counts (goal.at.tell-requires c).After-fix_right_border_of_plentiful _ c.requires.pairs c.requires.ended).leaves _ (rw (e.0, e.1) at c.count_node.ensures))

pub returns : goal.returns
returns c =
    λ g ps m o t s.
    let e = read (goal.at.returns c).After-height-below in
    finished g ps m _ _ _ t s ((counts (goal.at.returns c).After-fix_right_border_of_plentiful g ps o).leaves _ (rw (e.0, e.1) at c.count_node.ensures)) c.tell.ensures
