-- `store::free_before` meets its contract: what is left of the chain leads to the same, and none from `down` up to n is free.
-- Assumes nothing.
use Rattle.std.proofs.Common.{◌≡◌, refl, sym, ap, ◌∙◌, ℕ, ◌-◌, ◌≤◌, ◌<◌, length, arith}
use Rattle.model.specs.Layout.{none, nth}
use Rattle.node.specs.Reading.{Within}
use Rattle.node.proofs.Reading.{within, state_is, parent_is}
use Rattle.store.specs.Links.{node_if}
use Rattle.store.proofs.Searches.{search_start, search_ends, search_over, search_step, search_found, search_on, node_none, node_some}
use Rattle.store.proofs.Chain.{return_here, first_is}
use Rattle.store.proofs.free_before.Goals as goal
use Rattle.store.proofs.free_before.Goals.{Else-next-n}

pub first_free-next-requires : goal.first_free-next-requires
first_free-next-requires c = (return_here c.requires).0

pub loop-down-init : goal.loop-down-init
loop-down-init c = λ h ns free r a. (none, sym (node_none none refl), search_start free _ r _ (c.first_free-next.ensures ∙ first_is a free _ _ r refl))

-- a step of both searches is possible in the arena that there is
here : (c : Else-next-n) → (c.loop-down.next < c.loop-down.down) × Within c.args.a.now c.loop-down.next × Within c.args.a.now (c.loop-down.down - 1) × (c.loop-down.next < none)
here c =
    let p = c.requires in
    let i = c.loop-down.invariant p.head p.nodes p.holds.0 p.holds.1 p.arena in
    let k = search_step p.holds.0 c.args.n.0 p.holds.1 i.0 c.loop-down.next c.loop-down.down i.2 c.if-next-n.false in
    (k.below, within p.arena c.loop-down.next k.within, within p.arena (c.loop-down.down - 1) (omega (arith, p.holds.1.node)), omega (arith, (return_here p).3, c.if-next-n.false))

pub returns-then-next-n : goal.returns-then-next-n
returns-then-next-n c = λ h ns free r a.
    let i = c.loop-down.invariant h ns free r a in
    i.1 ∙ ap node_if (search_ends free c.args.n.0 r i.0 c.loop-down.next c.loop-down.down i.2 c.if-next-n.true)

pub state-requires : goal.state-requires
state-requires c = (here (goal.at.state-requires c).Else-next-n).2

pub returns-then-state-eq-FREE : goal.returns-then-state-eq-FREE
returns-then-state-eq-FREE c = λ h ns free r a.
    let i = c.loop-down.invariant h ns free r a in
    let d = c.loop-down.down - 1 in
    let k = here (goal.at.returns-then-state-eq-FREE c).Else-next-n in
    let o : d < length ns = omega (arith, r.node) in
    let e : d ≡ none → ⊥ = λ z. omega (arith, (return_here c.requires).3) in
    sym (node_some d e)
    ∙ ap node_if (search_found free c.args.n.0 r i.0 c.loop-down.next c.loop-down.down i.2 c.if-next-n.false d refl (omega arith) (sym (state_is a d o) ∙ sym c.state.ensures ∙ c.if-state-eq-FREE.true))

pub parent-next-requires : goal.parent-next-requires
parent-next-requires c = (here (goal.at.parent-next-requires c).Else-next-n).1

pub loop-down-preserved : goal.loop-down-preserved
loop-down-preserved c = λ h ns free r a.
    let i = c.loop-down.invariant h ns free r a in
    let d = c.loop-down.down - 1 in
    let next = c.loop-down.next in
    let k = here (goal.at.loop-down-preserved c).Else-next-n in
    let o : d < length ns = omega (arith, r.node) in
    let e = c.state.ensures ∙ state_is a d o in
    let z : 1 ≤ (nth ns d).state = some _ (λ q. c.if-state-eq-FREE.false (e ∙ q)) in
    let g = search_step free c.args.n.0 r i.0 next c.loop-down.down i.2 c.if-next-n.false in (
      next,
      sym (node_some next (λ q. omega (arith, k.3))),
      rw (c.parent-next.ensures ∙ parent_is a next g.within) (search_on free c.args.n.0 r i.0 next c.loop-down.down i.2 c.if-next-n.false d refl z),
    )
  where
    some : (m : ℕ) → (m ≡ 0 → ⊥) → 1 ≤ m
    some m d = omega arith

pub returns : goal.returns
returns c = λ h ns free r a.
    let i = c.loop-down.invariant h ns free r a in
    i.1 ∙ ap node_if (search_over free c.args.n.0 r i.0 c.loop-down.next c.loop-down.down i.2 (omega (arith, c.loop-down-test.false)))
