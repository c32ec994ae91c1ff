-- `store::return_node` meets its contract: the first, or behind the one that is before it.
-- Assumes nothing.
use Rattle.std.proofs.Common.{◌≡◌, ℕ, ◌+◌, List, refl, sym, ap, ◌∙◌, set, arith}
use Rattle.model.specs.Layout.{none, nth, NodeVal, Arena}
use Rattle.node.specs.Reading.{Within}
use Rattle.store.specs.Links.{ReturnReady, last_below}
use Rattle.model.specs.Words.{free_val}
use Rattle.node.proofs.Reading.{within, parent_is}
use Rattle.store.proofs.Chain.{return_here, first_is, returned_first, before_in, before_bare, returned_behind}
use Rattle.store.proofs.Searches.{names_none, names_some}
use Rattle.store.proofs.return_node.Goals as goal
use Rattle.store.proofs.return_node.Goals.{In-Some}

-- the node that is before it
found : (c : In-Some) → (h : List ℕ) (ns : List NodeVal) (free : List ℕ) → ReturnReady h ns free c.args.n.0 → Arena c.args.a.now h ns → (c.in-Some.low.0 ≡ last_below c.args.n.0 none free) × (c.in-Some.low.0 ≡ none → ⊥)
found c h ns free r a =
    let k = names_some _ c.in-Some.low (sym (c.free_before-before.ensures h ns free r a) ∙ c.in-Some.is) in
    (k.0, λ z. k.1 (sym k.0 ∙ z))

pub first_free-first-requires : goal.first_free-first-requires
first_free-first-requires c = (return_here c.requires).0

pub free_nodes-left-requires : goal.free_nodes-left-requires
free_nodes-left-requires c = (return_here c.requires).0

pub overflow_add-left : goal.overflow_add-left
overflow_add-left c =
    let k = return_here c.requires in
    omega arith

pub set_free-requires : goal.set_free-requires
set_free-requires c =
    let k = return_here c.requires in
    omega arith

pub set_free_nodes-requires : goal.set_free_nodes-requires
set_free_nodes-requires c =
    let k = return_here c.requires in
    omega arith

pub returns-in_default : goal.returns-in_default
returns-in_default c =
    λ h ns free r a.
    let x = c.args in
    let e = names_none _ (sym (c.free_before-before.ensures h ns free r a) ∙ c.in_default.is) in
    rw c.set_free_nodes.ensures (returned_first a free x.n.0 _ r (ap (λ (t : ℕ). t + 1) c.free_nodes-left.ensures) e (rw (c.first_free-first.ensures ∙ first_is a free x.n.0 _ r refl) at (c.set_free.ensures h ns r.node r.no_pairs r.no_edges a)))

here : (c : In-Some) → Within c.args.a.now c.in-Some.low.0
here c =
    let p = c.requires in
    let k = found c p.head p.nodes p.holds.0 p.holds.1 p.arena in
    within p.arena _ (before_in p.arena p.holds.0 _ _ p.holds.1 refl _ k.0 k.1)

pub parent-next-requires : goal.parent-next-requires
parent-next-requires c = here (goal.at.parent-next-requires c).In-Some

pub set_free-requires-2 : goal.set_free-requires-2
set_free-requires-2 c =
    let k = return_here c.requires in
    omega arith

pub set_free-requires-3 : goal.set_free-requires-3
set_free-requires-3 c = let k = here (goal.at.set_free-requires-3 c).In-Some in omega arith

pub set_free_nodes-requires-2 : goal.set_free_nodes-requires-2
set_free_nodes-requires-2 c =
    let k = return_here c.requires in
    omega arith

pub returns : goal.returns
returns c = λ h ns free r a.
    let n = c.args.n.0 in
    let p = c.in-Some.low.0 in
    let k = found (goal.at.returns c).In-Some h ns free r a in
    let e = k.0 in
    let d = k.1 in
    let u = c.parent-next.ensures ∙ parent_is a p (before_in a free n _ r refl p e d) in
    let s : Arena c.set_free-2.new.a h (set ns n (free_val (nth ns p).parent)) = rw u at (c.set_free-2.ensures h ns r.node r.no_pairs r.no_edges a) in
    let b = before_bare a free n _ r refl p e d (nth ns p).parent in
    rw c.set_free_nodes-2.ensures (returned_behind a free n _ r (ap (λ (t : ℕ). t + 1) c.free_nodes-left.ensures) p e d _ c.first_free-first.ensures (c.set_free-3.ensures h (set ns n (free_val (nth ns p).parent)) b.0 b.1 b.2 s))
