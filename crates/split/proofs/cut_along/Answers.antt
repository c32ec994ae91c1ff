-- `split::cut_along` meets its contract: wherever it was going where the loop began, it is going still.
-- Assumes nothing.
use Rattle.std.proofs.Common.{ℕ, List, ◌-◌, ◌+◌, ◌≤◌, ◌≡◌, sym, ◌∙◌, arith}
use Rattle.model.specs.Layout.{header, height_word}
use Rattle.node.proofs.Reading.{arena_length}
use Rattle.cutting.specs.Trims.{Goal, Trims}
use Rattle.cutting.proofs.Upward.{cut_begin, trims_ready, cut_after, cut_end, cut_on}
use Rattle.split.proofs.cut_along.Goals as goal
use Rattle.split.proofs.cut_along.Goals.{At-loop-level, In-Some, at-In-Some}

pub height-level-end-requires : goal.height-level-end-requires
height-level-end-requires c = omega (arith, arena_length c.requires.trims.arena)

pub loop-level-init : goal.loop-level-init
loop-level-init c = λ hd g s. let e : c.height-level-end.result - 0 ≡ c.height-level-end.result = omega arith in rw e s

-- where it begins, with as many levels above as the header tells
begun : (c : At-loop-level) (hd : List ℕ) (g : Goal) → Trims c.args.a.now hd g c.args.leaf.0 c.args.edge.0 (header hd height_word) → Trims c.loop-level.a hd g c.loop-level.node.0 c.loop-level.at.0 (c.height-level-end.result - c.loop-level._level)
begun c hd g t = c.loop-level.invariant hd g (rw c.height-level-end.ensures (cut_begin t))

known : (c : At-loop-level) → Trims c.loop-level.a c.requires.head c.requires.goal c.loop-level.node.0 c.loop-level.at.0 (c.height-level-end.result - c.loop-level._level)
known c = begun c _ _ c.requires.trims

pub cut_node-requires : goal.cut_node-requires
cut_node-requires c = let s = known (goal.at.cut_node-requires c).At-loop-level in record { head = _; nodes = s.nodes; arena = s.arena; holds = trims_ready s }

pub ascend-requires : goal.ascend-requires
ascend-requires c = cut_after (known (goal.at.ascend-requires c).At-loop-level) _ c.cut_node.ensures

pub returns-in_default : goal.returns-in_default
returns-in_default c = λ hd g t. cut_end (begun (goal.at.returns-in_default c).At-loop-level hd g t) _ c.cut_node.ensures (sym c.ascend.ensures ∙ c.in_default.is)

on : (c : In-Some) → let l = c.loop-level in let levels = c.height-level-end.result - l._level in
    (hd : List ℕ) (g : Goal) → Trims l.a hd g l.node.0 l.at.0 levels → (1 ≤ levels) × Trims c.cut_node.new.a hd g c.in-Some.parent.0 c.in-Some.place.0 (levels - 1)
on c hd g s = cut_on s _ c.cut_node.ensures c.in-Some.parent c.in-Some.place (sym c.ascend.ensures ∙ c.in-Some.is)

pub loop-level-preserved : goal.loop-level-preserved
loop-level-preserved c =
    λ hd g s.
    let e : c.height-level-end.result - c.loop-level._level - 1 ≡ c.height-level-end.result - (c.loop-level._level + 1) = omega arith in
    rw e at (on (goal.at.loop-level-preserved c).In-Some hd g (c.loop-level.invariant hd g s)).1

-- the way has no more levels than the header tells
pub returns-in-Some : goal.returns-in-Some
returns-in-Some c = let k = (goal.at.returns-in-Some c).In-Some in absurd (omega (arith, (on k _ _ (known (at-In-Some k).At-loop-level)).0))
