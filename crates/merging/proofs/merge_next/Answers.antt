use Rattle.std.proofs.Common.{subst, List, Some}
use Rattle.std.proofs.lemmas.Cmp.{ranked}
use Rattle.model.specs.Tree.{Pair, after}
use Rattle.model.specs.State.{State}
use Rattle.listing.specs.Heads.{HeadOf}
use Rattle.merging.proofs.Merges.{no_first, no_second, first_less, both_same, second_less, edge_of}
use Rattle.merging.proofs.merge_next.Goals as goal
use Rattle.merging.proofs.merge_next.Goals.{In-Some-Some}

-- both heads are pairs: what is before them
module _ (c : In-Some-Some) where
  first_of : (s : State) (ps : List Pair) → HeadOf s ps c.args.x → HeadOf s ps (Some (c.in-Some-Some.p, c.in-Some-Some.i))
  first_of s ps h = subst (HeadOf s ps) c.in-Some-Some.is-0 h

  second_of : (t : State) (qs : List Pair) → HeadOf t qs c.args.y → HeadOf t qs (Some (c.in-Some-Some.q, c.in-Some-Some.j))
  second_of t qs h = subst (HeadOf t qs) c.in-Some-Some.is-1 h

pub peek-requires : goal.peek-requires
peek-requires c = edge_of (c.in-None-Some.q, c.in-None-Some.j) c.in-None-Some.is-1 c.requires.1

pub peek-requires-in-Some-None : goal.peek-requires-in-Some-None
peek-requires-in-Some-None c = edge_of (c.in-Some-None.p, c.in-Some-None.i) c.in-Some-None.is-0 c.requires.0

pub peek-requires-in-Less : goal.peek-requires-in-Less
peek-requires-in-Less c = edge_of (c.in-Some-Some.p, c.in-Some-Some.i) c.in-Some-Some.is-0 c.requires.0

pub peek-requires-in-Equal : goal.peek-requires-in-Equal
peek-requires-in-Equal c = edge_of (c.in-Some-Some.p, c.in-Some-Some.i) c.in-Some-Some.is-0 c.requires.0

pub peek-requires-in-Equal-2 : goal.peek-requires-in-Equal-2
peek-requires-in-Equal-2 c = edge_of (c.in-Some-Some.q, c.in-Some-Some.j) c.in-Some-Some.is-1 c.requires.1

pub peek-requires-in-Greater : goal.peek-requires-in-Greater
peek-requires-in-Greater c = edge_of (c.in-Some-Some.q, c.in-Some-Some.j) c.in-Some-Some.is-1 c.requires.1

pub returns-in-None-Some : goal.returns-in-None-Some
returns-in-None-Some c = λ s t o u ps qs x y.
    let z = subst (HeadOf t qs) c.in-None-Some.is-1 y in
    no_first (after z.0.way) (subst (HeadOf s ps) c.in-None-Some.is-0 x) x z.1 (c.peek.ensures t u z.0)

pub returns-in-Some-None : goal.returns-in-Some-None
returns-in-Some-None c = λ s t o u ps qs x y.
    let z = subst (HeadOf s ps) c.in-Some-None.is-0 x in
    no_second (after z.0.way) z.1 (subst (HeadOf t qs) c.in-Some-None.is-1 y) y (c.peek-in-Some-None.ensures s o z.0)

pub returns-in-Less : goal.returns-in-Less
returns-in-Less c = λ s t o u ps qs x y.
    let f = first_of (goal.at.returns-in-Less c).In-Some-Some s ps x in
    let g = second_of (goal.at.returns-in-Less c).In-Some-Some t qs y in
    first_less (after f.0.way) (after g.0.way) f.1 g.1 (ranked _ _ _ c.in-Less.ensures) y (c.peek-in-Less.ensures s o f.0)

pub returns-in-Equal : goal.returns-in-Equal
returns-in-Equal c = λ s t o u ps qs x y.
    let f = first_of (goal.at.returns-in-Equal c).In-Some-Some s ps x in
    let g = second_of (goal.at.returns-in-Equal c).In-Some-Some t qs y in
    both_same (after f.0.way) (after g.0.way) f.1 g.1 (ranked _ _ _ c.in-Equal.ensures) (c.peek-in-Equal.ensures s o f.0) (c.peek-in-Equal-2.ensures t u g.0)

pub returns-in-Greater : goal.returns-in-Greater
returns-in-Greater c = λ s t o u ps qs x y.
    let f = first_of (goal.at.returns-in-Greater c).In-Some-Some s ps x in
    let g = second_of (goal.at.returns-in-Greater c).In-Some-Some t qs y in
    second_less (after f.0.way) (after g.0.way) f.1 g.1 (ranked _ _ _ c.in-Greater.ensures) x (c.peek-in-Greater.ensures t u g.0)
