-- `load::load` meets its contract.
-- Assumes nothing.
use Rattle.std.proofs.Common.{ℕ, ◌≡◌, List, length, arith}
use Rattle.model.specs.Layout.{Sized}
use Rattle.model.specs.Map.{Rising}
use Rattle.model.specs.State.{formatted}
use Rattle.model.specs.Words.{words_of}
use Rattle.model.specs.Load.{pairs_of}
use Rattle.appending.specs.Runs.{Loads}
use Rattle.inspect.proofs.Decisions.{decided, refuted}
use Rattle.load.proofs.Ends.{even_of, falls, few, loads, done}
use Rattle.load.proofs.load.Goals as goal
use Rattle.load.proofs.load.Goals.{In_ok-count, Else-need-count, Else-not-rises, at-Else-need-count}

pub rises-requires : goal.rises-requires
rises-requires c = even_of _ c.if-words-ne0.false

-- the slice is an arena's
fits : (c : In_ok-count) → Sized c.in_ok-count.count (length c.args.a.now)
fits c = rw c.in_ok-count.ensures.ok_part at c.node_count.ensures

-- the run rises
rise : (c : Else-not-rises) → Rising (pairs_of c.args.run.now)
rise c = decided c.rises.result c.rises.ensures c.if-not-rises.false

pub returns-then-not-rises : goal.returns-then-not-rises
returns-then-not-rises c = falls _ _ _ c.if-words-ne0.false (fits (goal.at.returns-then-not-rises c).In_ok-count) (refuted c.rises.result c.rises.ensures c.if-not-rises.true)

pub returns-then-need-count : goal.returns-then-need-count
returns-then-need-count c =
    let at = goal.at.returns-then-need-count c in
    few _ _ _ c.if-words-ne0.false (fits at.In_ok-count) (rise at.Else-not-rises) (omega (arith, c.if-need-count.true, c.nodes_for-need.ensures))

-- words that are formatted may be loaded
ready : (c : Else-need-count) {w : List ℕ} → w ≡ words_of (formatted c.in_ok-count.count) → Loads c.in_ok-count.count w c.args.run.now
ready c e = loads _ c.args.a.now _ c.if-words-ne0.false (fits (at-Else-need-count c).In_ok-count) (rise (at-Else-need-count c).Else-not-rises) (omega (arith, c.if-need-count.false, c.nodes_for-need.ensures)) e

pub load_formatted-requires : goal.load_formatted-requires
load_formatted-requires c = record { count = _; loads = ready (goal.at.load_formatted-requires c).Else-need-count c.write_all.ensures }

pub returns : goal.returns
returns c =
    let at = goal.at.returns c in
    done _ _ _ c.if-words-ne0.false (fits at.In_ok-count) (rise at.Else-not-rises) (omega (arith, c.if-need-count.false, c.nodes_for-need.ensures)) (c.load_formatted.ensures _ (ready at.Else-need-count c.write_all.ensures))
