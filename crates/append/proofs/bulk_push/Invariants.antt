-- Assumes nothing.
use Rattle.std.proofs.Common.{◌≡◌, ◌+◌, take}
use Rattle.model.specs.Layout.{header, root_word}
use Rattle.standing.specs.Heads.{Rest}
use Rattle.model.specs.Load.{push_all, begun, pairs_of}
use Rattle.appending.specs.Pushes.{LoadIn, last_long}
use Rattle.appending.specs.Runs.{Begun}
use Rattle.append.proofs.bulk_push.Given as goal

abbrev pub invariant-loop-key : goal.invariant-loop-key
invariant-loop-key l = (l.last.count ≡ last_long (push_all (pairs_of (take (l.key-index + l.key-index) l.run)) begun).way)
    × ((g : Rest) → Begun l.initial.a g (header l.initial.a root_word) l.run → LoadIn l.a g l.last.leaf.0 (push_all (pairs_of (take (l.key-index + l.key-index) l.run)) begun))
