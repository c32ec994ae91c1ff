-- `checker::check_leaf` meets its contract.
-- Assumes nothing.
use Rattle.std.proofs.Common.{arith, sym, ◌∙◌}
use Rattle.model.specs.WellFormed.{key_at_by}
use Rattle.inspect.specs.Tests.{reached, steps}
use Rattle.inspect.proofs.Decisions.{decided, refuted}
use Rattle.inspect.proofs.Ups.{ups_few}
use Rattle.checker.specs.Walks.{Passes, node_task}
use Rattle.checker.proofs.Nodes.{some_nodes, not_own}
use Rattle.checker.proofs.Leaves.{Passed, leaf_passed, leaf_good}
use Rattle.checker.proofs.check_leaf.Goals as goal
use Rattle.checker.proofs.check_leaf.Goals.{Start, then-before-eq0-via-then-before-eq0, then-before-eq0-via-else-before-eq0+then-not-own_leaf, then-before-n-via-then-before-n, then-before-n-via-else-before-n+then-not-above, then-before-n-via-else-before-n+else-not-above+then-ascents-n, then-before-n-via-else-before-n+else-not-above+else-ascents-n+then-not-counted}

-- what a leaf that is passed has beside its own words
told : (g : _) (c : Start g) → let x = c.args in
    Passes (node_task g.F.Format.layout x.arena.now.words.now x.arena.now.count (reached x.v)) x.before → Passed g.F.Format.layout x.arena.now.words.now x.v.node.0 x.before
told g c p =
    let x = c.args in
    let r = reached x.v in
    leaf_passed g.F.Format.layout x.arena.now.words.now x.arena.now.count r.fewest r.node r.parent r.place x.before (omega (arith, c.requires.1)) r.below c.requires.0 p

pub returns-then-before-eq0 : goal.returns-then-before-eq0
returns-then-before-eq0 g c =
    λ p.
    let x = c.args in
    let r = reached x.v in
    elim c.then-before-eq0.branch [
      | then-before-eq0-via-then-before-eq0 w ↦ omega (arith, p.nodes, some_nodes g.F.Format.layout x.arena.now.words.now x.arena.now.count r, w.if-before-eq0.true)
      | then-before-eq0-via-else-before-eq0+then-not-own_leaf w ↦
          not_own g.F.Format.layout x.arena.now.words.now x.arena.now.count r w.own_leaf.result w.own_leaf.ensures w.if-not-own_leaf.true p.holds
    ]

pub overflow_add-ascents : goal.overflow_add-ascents
overflow_add-ascents g c = omega (arith, c.ascents.ensures, ups_few (key_at_by g.F.Format.layout c.args.arena.now.words.now c.args.v.node.0) steps)

pub returns-then-before-n : goal.returns-then-before-n
returns-then-before-n g c =
    λ p.
    let t = told g (goal.at.returns-then-before-n g c).Start p in
    elim c.then-before-n.branch [
      | then-before-n-via-then-before-n w ↦ omega (arith, t.pairs, w.if-before-n.true, c.len-n.ensures)
      | then-before-n-via-else-before-n+then-not-above w ↦ refuted w.above.result w.above.ensures w.if-not-above.true (rw w.key.ensures t.above)
      | then-before-n-via-else-before-n+else-not-above+then-ascents-n w ↦ omega (arith, t.ascents, w.ascents.ensures, c.len-n.ensures, w.if-ascents-n.true)
      | then-before-n-via-else-before-n+else-not-above+else-ascents-n+then-not-counted w ↦ refuted w.counted.result w.counted.ensures w.if-not-counted.true (λ k. t.told k ∙ sym c.len-n.ensures)
    ]

pub returns : goal.returns
returns g c =
    let x = c.args in
    let r = reached x.v in
    let n = c.len-n in
    leaf_good g.F.Format.layout x.arena.now.words.now x.arena.now.count r.fewest r.node r.parent r.place x.before (omega (arith, c.requires.1)) r.below n.result c.key-2.result c.requires.0 n.ensures c.key-2.ensures (omega (arith, c.if-before-eq0.false))
    (decided c.own_leaf.result c.own_leaf.ensures c.if-not-own_leaf.false)
    (record {
      pairs = omega (arith, n.ensures, c.if-before-n.false);
      above = rw c.key.ensures at (decided c.above.result c.above.ensures c.if-not-above.false);
      ascents = omega (arith, n.ensures, c.ascents.ensures, c.if-ascents-n.false);
      told = λ t. decided c.counted.result c.counted.ensures c.if-not-counted.false t ∙ n.ensures;
    })
