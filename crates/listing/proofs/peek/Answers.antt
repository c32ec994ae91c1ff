use Rattle.std.proofs.Common.{sym, ◌∙◌, subst}
use Rattle.model.specs.Tree.{after}
use Rattle.model.specs.State.{State}
use Rattle.model.specs.Promise.{Holds}
use Rattle.navigate.specs.Places.{EdgeAt}
use Rattle.navigate.proofs.Pairs.{kv_within, kv_key, kv_val}
use Rattle.listing.specs.Heads.{HeadOf}
use Rattle.listing.proofs.Sofar.{Sight, sight, no_sight, peeked}
use Rattle.listing.proofs.peek.Goals as goal
use Rattle.listing.proofs.peek.Goals.{In_ok-kv}

-- the pair in sight
seen : (c : In_ok-kv) {s : State} (o : Holds c.args.a.now s) (y : EdgeAt s c.args.from) → Sight y c.in_ok-kv.kv
seen c {s} o y = sight y c.in_ok-kv.kv (sym c.in_ok-kv.was ∙ c.next_kv.ensures s o y)

pub returns-in_err-kv : goal.returns-in_err-kv
returns-in_err-kv c = λ s o y. subst (HeadOf s (after y.way)) (sym c.from_residual.ensures) (no_sight y (sym c.in_err-kv.was ∙ c.next_kv.ensures s o y))

pub key-requires : goal.key-requires
key-requires c = let x = c.requires in kv_within _ (seen (goal.at.key-requires c).In_ok-kv x.holds x.there).kv x.holds

pub val-requires : goal.val-requires
val-requires c = let x = c.requires in kv_within _ (seen (goal.at.val-requires c).In_ok-kv x.holds x.there).kv x.holds

pub next_leaf_edge-requires : goal.next_leaf_edge-requires
next_leaf_edge-requires c = let x = c.requires in record { state = x.state; holds = x.holds; there = (seen (goal.at.next_leaf_edge-requires c).In_ok-kv x.holds x.there).kv }

pub returns : goal.returns
returns c = λ s o y.
    let v = seen (goal.at.returns c).In_ok-kv o y in
    peeked y v c.key.result c.val.result c.next_leaf_edge.result (c.key.ensures ∙ kv_key _ v.kv o) (c.val.ensures ∙ kv_val _ v.kv o) (c.next_leaf_edge.ensures s o v.kv)
