-- `map::look` meets its contract: the search, and the value where it ends.
-- Assumes nothing.
use mathlib.Core.Path.{sym, ap, ◌∙◌}
use Rattle.model.specs.declared.Answer.TheVariants.{Value}
use Rattle.model.specs.Search as model
use Rattle.model.specs.State.{State}
use Rattle.model.specs.Promise.{Holds}
use Rattle.model.proofs.Forward.{forward}
use Rattle.model.proofs.Ends.{does_as}
use Rattle.navigate.proofs.Pairs.{Placed, search_placed, kv_within, kv_val}
use Rattle.map.proofs.Gets.{present}
use Rattle.map.proofs.look.Goals as goal
use Rattle.map.proofs.look.Goals.{In-Found}

-- the pair's place, in whatever state the words hold
placed : (c : In-Found) {s : State} → Holds c.args.a.now s → Placed s (model.search c.args.key s.whole) c.in-Found.kv
placed c {s} o = search_placed c.args.key o.sound c.in-Found.kv (sym c.in-Found.is ∙ c.search_tree.ensures s o)

pub val-requires : goal.val-requires
val-requires c = let x = c in let o = forward x.args.a.now x.requires in kv_within _ (placed (goal.at.val-requires c).In-Found o).kv o

pub returns : goal.returns
returns c = λ s o. let p = placed (goal.at.returns c).In-Found o in does_as (present p) (record { left = o.words; said = ap Value (c.val.ensures ∙ kv_val _ p.kv o) })
