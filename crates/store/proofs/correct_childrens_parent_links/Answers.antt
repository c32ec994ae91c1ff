-- `store::correct_childrens_parent_links` meets its contract. The invariant: the children up to i are linked.
-- Assumes nothing.
use Prim.Native.Nat.{ℕ, ◌<◌}
use mathlib.Core.Path.{◌≡◌, ◌∙◌}
use native.Mathlib.Omega.{arith}
use lib.ListN.{length}
use Rattle.model.specs.Layout.{nth}
use Rattle.node.proofs.Reading.{within}
use Rattle.store.proofs.All.{all_at}
use Rattle.store.proofs.Relink.{known, so, so_length, so_child, so_next, so_none, so_all}
use Rattle.store.proofs.correct_childrens_parent_links.Goals as goal

pub loop-i-init : goal.loop-i-init
loop-i-init c = λ h ns k a. rw (so_none ns c.args.n.0 c.args.from) a

pub edge-child-requires : goal.edge-child-requires
edge-child-requires c =
    let p = c.requires.1 in
    let k = known p.holds p.arena in
    (omega arith, omega arith)

pub set_parent_link-requires : goal.set_parent_link-requires
set_parent_link-requires c =
    let x = c.args in
    let p = c.requires.1 in
    let l = c.loop-i in
    let a = l.invariant p.head p.nodes p.holds p.arena in
    let d = c.edge-child.ensures ∙ so_child p.nodes x.n.0 x.from x.end l.i p.holds (omega arith) (omega arith) a in
    let g = all_at (λ (t : ℕ). t < length p.nodes) (nth p.nodes x.n.0).edges l.i 0 (omega (arith, p.holds.count)) p.holds.lead in
    within a _ (rw (d, so_length p.nodes x.n.0 x.from l.i) g)

pub loop-i-preserved : goal.loop-i-preserved
loop-i-preserved c =
    let x = c.args in
    let l = c.loop-i in
    λ h ns k a₀.
    let a = l.invariant h ns k a₀ in
    let d = c.edge-child.ensures ∙ so_child ns x.n.0 x.from x.end l.i k (omega arith) (omega arith) a in
    let g = all_at (λ (t : ℕ). t < length ns) (nth ns x.n.0).edges l.i 0 (omega (arith, k.count)) k.lead in
    rw (d, so_next ns x.n.0 x.from x.end l.i k (omega arith) (omega arith)) at (c.set_parent_link.ensures h (so ns x.n.0 x.from l.i) (rw (d, so_length ns x.n.0 x.from l.i) g) a)

pub returns : goal.returns
returns c =
    λ h ns k a.
    let x = c.args in
    let e : c.loop-i.i ≡ x.end = omega arith in
    rw (e, so_all ns x.n.0 x.from x.end k) at (c.loop-i.invariant h ns k a)
