-- `remove::delete` meets its contract: the search, and the removal at the pair's place.
-- Assumes nothing.
use mathlib.Core.Path.{sym, ap, ◌∙◌}
use Rattle.model.specs.declared.Answer.TheVariants.{Value}
use Rattle.model.specs.Tree.{Pair}
use Rattle.model.specs.State.{State}
use Rattle.model.specs.Search as model
use Rattle.model.specs.Promise.{Holds}
use Rattle.model.proofs.Forward.{forward}
use Rattle.model.proofs.Ends.{does_as}
use Rattle.navigate.proofs.Pairs.{Placed, search_placed}
use Rattle.remove.proofs.Inner.{deleted_there}
use Rattle.remove.proofs.delete.Goals as goal
use Rattle.remove.proofs.delete.Goals.{In-Found}

-- the pair's place, in whatever state the words hold
placed : (c : In-Found) {s : State} → Holds c.args.a.now s → Placed s (model.search c.args.key s.whole) c.in-Found.kv
placed c {s} o = search_placed c.args.key o.sound c.in-Found.kv (sym c.in-Found.is ∙ c.search_tree.ensures s o)

pub remove_kv_tracking-old-requires : goal.remove_kv_tracking-old-requires
remove_kv_tracking-old-requires c =
    let o = forward _ c.requires in
    record { state = _; holds = o; there = (placed (goal.at.remove_kv_tracking-old-requires c).In-Found o).kv }

pub returns : goal.returns
returns c =
    λ s o.
    let q = placed (goal.at.returns c).In-Found o in
    let r = c.remove_kv_tracking-old.ensures s o q.kv in
    let e = deleted_there q in
    does_as e (record { left = r.1.words; said = ap (λ (p : Pair). Value p.val) r.0 })
