use Rattle.std.proofs.Common.{◌+◌, ◌*◌, ◌≤◌, ◌≡◌, length, arith, ap₂}
use Rattle.model.specs.Layout.{header, pairs_word}
use Rattle.model.specs.State.{State}
use Rattle.model.specs.Room.{nodes_for}
use Rattle.model.specs.Join.{joined_run}
use Rattle.model.specs.Promise.{Holds}
use Rattle.model.proofs.Forward.{forward}
use Rattle.inspect.proofs.Decisions.{held, failed}
use Rattle.merging.proofs.Merges.{pairs_few}
use Rattle.join.proofs.Joining.{short, no_nodes, done}
use Rattle.join.proofs.join.Goals as goal
use Rattle.join.proofs.join.Goals.{After-pairs-2, Else-lacks, Else-third-pairs, at-Else-third-pairs}

-- what the headers count
counted : (c : After-pairs-2) → c.pairs.result + c.pairs-2.result ≡ header c.args.first.now pairs_word + header c.args.second.now pairs_word
counted c = ap₂ ◌+◌ c.pairs.ensures c.pairs-2.ensures

-- there is room for the pairs of both
fits : (c : Else-third-pairs) → 2 * (header c.args.first.now pairs_word + header c.args.second.now pairs_word) ≤ length c.args.third.now
fits c = omega (arith, c.if-third-pairs.false, counted (at-Else-third-pairs c).After-pairs-2)

-- and nodes for the joined run
room : (c : Else-lacks) (s t : State) → Holds c.args.first.now s → Holds c.args.second.now t → nodes_for (length (joined_run s t)) ≤ s.size
room c s t h g = let no = failed c.lacks.result (c.lacks.ensures s t h g) c.if-lacks.false in omega (arith, no)

pub overflow_add-pairs : goal.overflow_add-pairs
overflow_add-pairs c = omega (arith, c.pairs.ensures, c.pairs-2.ensures, pairs_few c.in_ok-check.ensures.ok, pairs_few c.in_ok-check-2.ensures.ok)

pub overflow_mul-pairs : goal.overflow_mul-pairs
overflow_mul-pairs c = omega (arith, c.pairs.ensures, c.pairs-2.ensures, pairs_few c.in_ok-check.ensures.ok, pairs_few c.in_ok-check-2.ensures.ok)

pub returns-then-third-pairs : goal.returns-then-third-pairs
returns-then-third-pairs c =
    short c.args.third.now (forward c.args.first.now c.in_ok-check.ensures.ok) (forward c.args.second.now c.in_ok-check-2.ensures.ok)
    (omega (arith, c.if-third-pairs.true, counted (goal.at.returns-then-third-pairs c).After-pairs-2))

pub lacks-requires : goal.lacks-requires
lacks-requires c = (c.in_ok-check.ensures.ok, c.in_ok-check-2.ensures.ok, counted (goal.at.lacks-requires c).After-pairs-2)

pub returns-then-lacks : goal.returns-then-lacks
returns-then-lacks c =
    let h = forward c.args.first.now c.in_ok-check.ensures.ok in
    let g = forward c.args.second.now c.in_ok-check-2.ensures.ok in
    no_nodes c.args.third.now h g (fits (goal.at.returns-then-lacks c).Else-third-pairs) (held c.lacks.result (c.lacks.ensures _ _ h g) c.if-lacks.true)

pub join_all-requires : goal.join_all-requires
join_all-requires c = record { first = c.in_ok-check.ensures.ok; second = c.in_ok-check-2.ensures.ok; fits = fits (goal.at.join_all-requires c).Else-third-pairs; room = room (goal.at.join_all-requires c).Else-lacks }

pub returns : goal.returns
returns c =
    let h = forward c.args.first.now c.in_ok-check.ensures.ok in
    let g = forward c.args.second.now c.in_ok-check-2.ensures.ok in
    done c.args.third.now h g (fits (goal.at.returns c).Else-third-pairs) (room (goal.at.returns c).Else-lacks _ _ h g) (c.join_all.ensures _ _ h g)
