-- `sweep::sweep` meets its contract: the nodes from n on are swept, and the chain so far is theirs.
-- Assumes nothing.
use Rattle.std.proofs.Common.{◌-◌, ◌≤◌, ◌≡◌, sym, ◌∙◌, arith, length}
use lib.Dec.{lit<}
use Rattle.model.specs.Layout.{count_word}
use Rattle.node.proofs.Reading.{arena_length, within}
use Rattle.store.proofs.Chain.{head_is}
use Rattle.cutting.proofs.Sweeps.{SweptTo, to_begin, to_inside, to_stay, to_go, to_end}
use Rattle.sweep.proofs.sweep.Goals as goal
use Rattle.sweep.proofs.sweep.Goals.{At-loop-n}

pub count-n-requires : goal.count-n-requires
count-n-requires c = omega (arith, arena_length c.requires.arena)

pub loop-n-init : goal.loop-n-init
loop-n-init c = (omega arith, λ h ns e a. to_begin _ _ a e)

-- as many nodes are there as were counted
all : (c : At-loop-n) → c.count-n.result ≡ length c.requires.nodes
all c = let p = c.requires in c.count-n.ensures ∙ head_is p.arena count_word (lit< tt) ∙ p.holds.0

known : (c : At-loop-n) → let x = c in SweptTo x.args.least c.loop-n.a x.requires.head x.requires.nodes c.loop-n.first c.loop-n.free c.loop-n.n
known c = let p = c.requires in c.loop-n.invariant.1 p.head p.nodes (all c) p.arena

few : (c : At-loop-n) → c.loop-n.n ≤ length c.requires.nodes
few c = omega (arith, c.loop-n.invariant.0, all c)

pub goes-requires : goal.goes-requires
goes-requires c = let l = c in let s = known (goal.at.goes-requires c).At-loop-n in within s.arena (l.loop-n.n - 1) (to_inside s (omega (arith, c.loop-n-test.true)) (few (goal.at.goes-requires c).At-loop-n))

pub set_free-requires : goal.set_free-requires
set_free-requires c = let l = c in let s = known (goal.at.set_free-requires c).At-loop-n in within s.arena (l.loop-n.n - 1) (to_inside s (omega (arith, c.loop-n-test.true)) (few (goal.at.set_free-requires c).At-loop-n))

pub overflow_add-free : goal.overflow_add-free
overflow_add-free c = omega (arith, c.loop-n-test.true, c.loop-n.invariant.0, all (goal.at.overflow_add-free c).At-loop-n, c.requires.holds.1)

pub loop-n-preserved-then-goes : goal.loop-n-preserved-then-goes
loop-n-preserved-then-goes c =
    let l = c in
    let some : 1 ≤ l.loop-n.n = omega (arith, c.loop-n-test.true) in (
      omega (arith, l.loop-n.invariant.0),
      λ h ns e a.
          let s = l.loop-n.invariant.1 h ns e a in
          let f : l.loop-n.n ≤ length ns = omega (arith, l.loop-n.invariant.0, e) in
          let i = to_inside s some f in
          to_go s some f (sym (c.goes.ensures h _ i s.arena) ∙ c.if-goes.true) (c.set_free.ensures h _ i s.arena),
    )

pub loop-n-preserved : goal.loop-n-preserved
loop-n-preserved c =
    let l = c in
    let some : 1 ≤ l.loop-n.n = omega (arith, c.loop-n-test.true) in (
      omega (arith, l.loop-n.invariant.0),
      λ h ns e a.
          let s = l.loop-n.invariant.1 h ns e a in
          let f : l.loop-n.n ≤ length ns = omega (arith, l.loop-n.invariant.0, e) in
          let i = to_inside s some f in
          to_stay s some f (sym (c.goes.ensures h _ i s.arena) ∙ c.if-goes.false),
    )

pub set_free_nodes-requires : goal.set_free_nodes-requires
set_free_nodes-requires c = omega (arith, c.loop-n.auto.a, arena_length c.requires.arena)

pub returns : goal.returns
returns c =
    λ h ns e a.
    rw c.set_free_nodes.ensures (to_end (c.loop-n.invariant.1 h ns (c.count-n.ensures ∙ head_is a count_word (lit< tt) ∙ e) a) (omega (arith, c.loop-n-test.false)))
