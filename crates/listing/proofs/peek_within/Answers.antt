use Rattle.std.proofs.Common.{rules}
use Rattle.listing.proofs.Sofar.{filtered}
use Rattle.listing.proofs.peek_within.Goals as goal

pub returns : goal.returns
returns c = λ s o y. filtered c.args.end s _ c.peek.result c.filter.result (c.peek.ensures s o y) (λ x b q. search rules) c.filter.ensures
