-- `remove::remove_leaf_kv` meets its contract: the pair taken out, the repair, and the root taken off if that emptied it.
-- Assumes nothing.
use Rattle.std.proofs.Common.{◌≡◌, false}
use native.Mathlib.Omega.{arith}
use Rattle.model.specs.State.{State}
use Rattle.model.specs.Promise.{Holds}
use Rattle.standing.specs.Heads.{rest_of, ClosedIn}
use Rattle.fix.specs.Repairs.{Emptied}
use Rattle.remove.specs.Removals.{LeafKv, without}
use Rattle.fix.proofs.Emptying.{repaired, unrepaired, emptied_long, emptied_stays, emptied_in, emptied_popped}
use Rattle.remove.proofs.Leaving.{leaf_taken, pairs_word_is, leaf_mending, leaf_holds, leaf_end}
use Rattle.remove.proofs.remove_leaf_kv.Goals as goal
use Rattle.remove.proofs.remove_leaf_kv.Goals.{After-fix_node_and_affected_ancestors, else-not-fix_node_and_affected_ancestors-via-then-not-fix_node_and_affected_ancestors+else-height-gt0, else-not-fix_node_and_affected_ancestors-via-else-not-fix_node_and_affected_ancestors}

pub count_off-requires : goal.count_off-requires
count_off-requires c =
    let p = c.requires in
    let k = pairs_word_is p.holds p.there c.take_pair-old.ensures in
    (k.0, omega (arith, k.1))

pub fix_node_and_affected_ancestors-requires : goal.fix_node_and_affected_ancestors-requires
fix_node_and_affected_ancestors-requires c = let p = c.requires in record { rest = _; end = _; mending = leaf_mending p.holds p.there c.take_pair-old.ensures c.count_off.ensures }

-- the root that the repair has left empty
emptied : (c : After-fix_node_and_affected_ancestors) → c.fix_node_and_affected_ancestors.result ≡ false → (s : State) (o : Holds c.args.a.now s) (y : LeafKv s c.args.kv) → Emptied c.fix_node_and_affected_ancestors.new.a (rest_of (without s y)) (leaf_end y)
emptied c e s o y = unrepaired c.fix_node_and_affected_ancestors.result e (c.fix_node_and_affected_ancestors.ensures _ _ (leaf_mending o y c.take_pair-old.ensures c.count_off.ensures))

pub height-requires : goal.height-requires
height-requires c =
    let p = c.requires in
    let e = emptied (goal.at.height-requires c).After-fix_node_and_affected_ancestors c.if-not-fix_node_and_affected_ancestors.true _ p.holds p.there in
    omega (arith, emptied_long e)

pub pop_internal_level-requires : goal.pop_internal_level-requires
pop_internal_level-requires c =
    let p = c.requires in
    emptied_in (emptied (goal.at.pop_internal_level-requires c).After-fix_node_and_affected_ancestors c.if-not-fix_node_and_affected_ancestors.true _ p.holds p.there) (omega (arith, c.height.ensures, c.if-height-gt0.true))

pub returns-then-height-gt0 : goal.returns-then-height-gt0
returns-then-height-gt0 c =
    λ s o y.
    let e = emptied (goal.at.returns-then-height-gt0 c).After-fix_node_and_affected_ancestors c.if-not-fix_node_and_affected_ancestors.true _ o y in
    (leaf_taken o y c.take_pair-old.ensures, leaf_holds o y (emptied_popped e (omega (arith, c.height.ensures, c.if-height-gt0.true)) c.pop_internal_level.ensures))

-- a leaf, or whole
pub returns-else-not-fix_node_and_affected_ancestors : goal.returns-else-not-fix_node_and_affected_ancestors
returns-else-not-fix_node_and_affected_ancestors c =
    λ s o y.
    let b = (goal.at.returns-else-not-fix_node_and_affected_ancestors c).After-fix_node_and_affected_ancestors in
    let closed : ClosedIn c.fix_node_and_affected_ancestors.new.a (rest_of (without s y)) (leaf_end y) = elim c.else-not-fix_node_and_affected_ancestors.branch [
      | else-not-fix_node_and_affected_ancestors-via-then-not-fix_node_and_affected_ancestors+else-height-gt0 w ↦ emptied_stays (emptied b w.if-not-fix_node_and_affected_ancestors.true _ o y) (omega (arith, w.height.ensures, w.if-height-gt0.false))
      | else-not-fix_node_and_affected_ancestors-via-else-not-fix_node_and_affected_ancestors w ↦ repaired c.fix_node_and_affected_ancestors.result w.if-not-fix_node_and_affected_ancestors.false (c.fix_node_and_affected_ancestors.ensures _ _ (leaf_mending o y c.take_pair-old.ensures c.count_off.ensures))
    ] in
    (leaf_taken o y c.take_pair-old.ensures, leaf_holds o y closed)
