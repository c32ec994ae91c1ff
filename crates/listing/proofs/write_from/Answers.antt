use Rattle.std.proofs.Common.{arith}
use Rattle.listing.proofs.Sofar.{sofar_start, all_told, full, one_more}
use Rattle.listing.proofs.write_from.Goals as goal

pub loop-wrote-init : goal.loop-wrote-init
loop-wrote-init c = λ s o y. sofar_start c.args.end c.args.out.now y

pub peek_within-requires : goal.peek_within-requires
peek_within-requires c = let x = c.requires in record { state = x.state; holds = x.holds; there = (c.loop-wrote.invariant x.state x.holds x.there).edge }

pub returns-in_default : goal.returns-in_default
returns-in_default c = λ s o y. let f = c.loop-wrote.invariant s o y in all_told f (omega arith) (c.in_default.ensures s o f.edge)

pub loop-wrote-preserved : goal.loop-wrote-preserved
loop-wrote-preserved c = λ s o y. let f = c.loop-wrote.invariant s o y in one_more f (c.in-Some.pair, c.in-Some.next) (c.in-Some.ensures s o f.edge) (omega arith)

pub peek_within-requires-2 : goal.peek_within-requires-2
peek_within-requires-2 c = let x = c.requires in record { state = x.state; holds = x.holds; there = (c.loop-wrote.invariant x.state x.holds x.there).edge }

pub returns : goal.returns
returns c = λ s o y. let f = c.loop-wrote.invariant s o y in full f (omega arith) c.peek_within-2.result c.is_some.result (c.peek_within-2.ensures s o f.edge) c.is_some.ensures
