-- `cut::push_after` meets its contract.
-- Assumes nothing.
use Rattle.std.proofs.Common.{◌≡◌, ℕ, ◌-◌, arith, subst}
use Rattle.model.specs.Load.{push_all, begun}
use Rattle.cut.specs.Moves.{Moving}
use Rattle.cut.proofs.Moves.{moves_end, moves_out, moves_room, moves_on}
use Rattle.cut.proofs.push_after.Goals as goal
use Rattle.cut.proofs.push_after.Goals.{At-loop}

known : (c : At-loop) → let p = c.requires in Moving p.state p.rest p.all c.loop.b c.loop.leaf.0 (c.args.pairs - c.loop.counter) c.loop.at
known c = let p = c.requires in c.loop.invariant p.state p.holds p.rest p.all p.moving

pub loop-init : goal.loop-init
loop-init c = λ s o g all m. let e : c.args.pairs ≡ c.args.pairs - 0 = omega arith in subst (λ (n : ℕ). Moving s g all c.args.b.now 0 n c.args.from) e m

pub peek-requires : goal.peek-requires
peek-requires c = let p = c.requires in record { state = p.state; holds = p.holds; there = (known (goal.at.peek-requires c).At-loop).edge }

pub returns-in_default : goal.returns-in_default
returns-in_default c = λ s o g all m. let M = c.loop.invariant s o g all m in moves_end M (c.in_default.ensures s o M.edge)

pub push-leaf-requires : goal.push-leaf-requires
push-leaf-requires c =
    let p = c.requires in
    let M = known (goal.at.push-leaf-requires c).At-loop in
    record { rest = p.rest; so_far = push_all M.done begun; load = M.load; room = moves_room M _ _ (c.in-Some.ensures p.state p.holds M.edge) }

pub loop-preserved : goal.loop-preserved
loop-preserved c = λ s o g all m.
    let M = c.loop.invariant s o g all m in
    let h = c.in-Some.ensures s o M.edge in
    moves_on M _ _ h _ (omega arith) (c.push-leaf.ensures g (push_all M.done begun) M.load (moves_room M _ _ h))

pub returns : goal.returns
returns c = λ s o g all m. moves_out (c.loop.invariant s o g all m) (omega arith)
