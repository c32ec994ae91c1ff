-- `inspect::chain` meets its contract: the whole is a chain exactly where what is left of it is.
-- Assumes nothing.
use Rattle.std.proofs.Common.{arith, ◌≡◌, ◌-◌, eqb}
use Rattle.model.specs.Layout.{none}
use Rattle.model.specs.Shape.{OwnFreeBy, ChainBy}
use Rattle.inspect.proofs.Decisions.{decided, refuted, decides_as, equal}
use Rattle.inspect.proofs.Words.{chain_out, chain_next, chain_done, done_chain}
use Rattle.inspect.proofs.chain.Goals as goal
use Rattle.inspect.proofs.chain.Goals.{In-loop}

-- what a chain says of the next node
next : (g : _) (c : In-loop g) → let x = c.args in
    ChainBy g.F.Format.layout x.arena.now.words.now x.arena.now.count x.free x.first → OwnFreeBy g.F.Format.layout x.arena.now.words.now x.arena.now.count c.loop.at
next g c h = (chain_out g.F.Format.layout c.args.arena.now.words.now c.args.arena.now.count (c.args.free - c.loop.counter) c.loop.at (omega arith) (c.loop.invariant.1 h)).0

pub returns-then-at-arena : goal.returns-then-at-arena
returns-then-at-arena g c = λ h. omega (arith, (next g (goal.at.returns-then-at-arena g c).In-loop h).inside, c.if-at-arena.true)

pub returns-then-not-own_free : goal.returns-then-not-own_free
returns-then-not-own_free g c = λ h. refuted c.own_free.result c.own_free.ensures c.if-not-own_free.true (next g (goal.at.returns-then-not-own_free g c).In-loop h).zero

pub returns-then-next-at : goal.returns-then-next-at
returns-then-next-at g c = λ h. omega (arith, (next g (goal.at.returns-then-next-at g c).In-loop h).rise, c.parent-next.ensures, c.if-next-at.true)

pub loop-preserved : goal.loop-preserved
loop-preserved g c =
    let e = c.parent-next.ensures in
    let s = chain_next g.F.Format.layout c.args.arena.now.words.now c.args.arena.now.count c.args.free c.loop.counter c.loop.at c.parent-next.result c.loop-test.true e
    (record { inside = c.if-at-arena.false; zero = decided c.own_free.result c.own_free.ensures c.if-not-own_free.false; rise = omega (arith, e, c.if-next-at.false) }) in
    (λ h. c.loop.invariant.0 (s.1 h), λ h. s.0 (c.loop.invariant.1 h))

pub returns : goal.returns
returns g c =
    let x = c.args in
    let l = c.loop in
    let z : x.free - l.counter ≡ 0 = omega arith in
    decides_as (eqb l.at none)
    (λ e. l.invariant.0 (done_chain g.F.Format.layout x.arena.now.words.now x.arena.now.count (x.free - l.counter) l.at z e))
    (λ h. chain_done g.F.Format.layout x.arena.now.words.now x.arena.now.count (x.free - l.counter) l.at z (l.invariant.1 h))
    (equal l.at none)
