-- `remove::remove_kv_tracking` meets its contract: a leaf's pair or another.
-- Assumes nothing.
use mathlib.Core.Path.{◌∙◌, subst}
use native.Mathlib.Omega.{arith}
use Rattle.model.specs.Promise.{Holds}
use Rattle.remove.proofs.Inner.{as_leaf}
use Rattle.remove.proofs.remove_kv_tracking.Goals as goal

pub remove_leaf_kv-requires : goal.remove_leaf_kv-requires
remove_leaf_kv-requires c = let p = c.requires in record { state = p.state; holds = p.holds; there = (as_leaf p.there (omega (arith, c.if-kv-eq0.true))).kv }

pub returns-then-kv-eq0 : goal.returns-then-kv-eq0
returns-then-kv-eq0 c =
    λ s o y.
    let a = as_leaf y (omega (arith, c.if-kv-eq0.true)) in
    let r = c.remove_leaf_kv.ensures s o a.kv in
    (r.0 ∙ a.pair_is, subst (Holds c.remove_leaf_kv.new.a) a.same r.1)

pub remove_internal_kv-requires : goal.remove_internal_kv-requires
remove_internal_kv-requires c = let p = c.requires in record { state = p.state; holds = p.holds; there = record { kv = p.there; inner = omega (arith, c.if-kv-eq0.false) } }

pub returns-else-kv-eq0 : goal.returns-else-kv-eq0
returns-else-kv-eq0 c = λ s o y. c.remove_internal_kv.ensures s o (record { kv = y; inner = omega (arith, c.if-kv-eq0.false) })
