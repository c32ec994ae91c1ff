-- `insert::insert_or_split` meets its contract.
-- Assumes nothing.
use Rattle.std.proofs.Common.{◌≡◌, ℕ}
use Rattle.node.specs.Reading.{pair_of}
use Rattle.model.specs.Insert.{splitpoint}
use Rattle.growing.specs.Steps.{half}
use Rattle.growing.proofs.Gaps.{CutIn, CutCall, gap_within, gap_fit, gap_fitted, gap_cut, gap_half, gap_risen}
use Rattle.insert.specs.Inserts.{level}
use Rattle.insert.proofs.Targets.{middle_is, target_node, target_at}
use Rattle.insert.proofs.insert_or_split.Goals as goal
use Rattle.insert.proofs.insert_or_split.Goals.{After-insertion_edge, After-splitpoint-point, Joined-child, in-None, in-Some}

-- the split point, and the edge of a half
mid : (c : After-splitpoint-point) → c.splitpoint-point.result.middle.0 ≡ (splitpoint c.args.at.0).place
mid c = middle_is c.splitpoint-point.result c.args.at.0 c.splitpoint-point.ensures

pub len-requires : goal.len-requires
len-requires c = gap_within c.requires.gap

pub insert_fit-requires : goal.insert_fit-requires
insert_fit-requires c = (c.requires.height, gap_fit c.requires.gap _ c.len.ensures c.if-len-lt-CAPACITY.true)

pub returns-then-len-lt-CAPACITY : goal.returns-then-len-lt-CAPACITY
returns-then-len-lt-CAPACITY c = λ k s. gap_fitted s _ c.len.ensures c.if-len-lt-CAPACITY.true _ _ (c.insert_fit.ensures k)

-- what a split asks, of a leaf or of an internal node
cut_in : (c : After-splitpoint-point) → CutIn (level c.args.child c.requires.height) c.args.a.now c.args.n.0 c.splitpoint-point.result.middle.0
cut_in c = gap_cut c.requires.gap _ c.len.ensures c.if-len-lt-CAPACITY.false (pair_of c.args.kv) _ (mid c)

pub split-split-requires : goal.split-split-requires
split-split-requires c =
    let q = rw c.in-None.is at (cut_in (goal.at.split-split-requires c).After-splitpoint-point) in
    record { head = q.head; nodes = q.nodes; arena = q.arena; holds = q.holds.0 }

pub split-split-requires-in-Some : goal.split-split-requires-in-Some
split-split-requires-in-Some c = rw c.in-Some.is at (cut_in (goal.at.split-split-requires-in-Some c).After-splitpoint-point)

-- and what it does
was_cut : (c : Joined-child) (k : ℕ) → CutCall (level c.args.child k) c.args.a.now c.match-child.a c.args.n.0 c.splitpoint-point.result.middle.0 c.match-child.split.right.0 (pair_of c.match-child.split.kv)
was_cut c k = elim c.match-child.branch [
  | in-None t ↦ rw (t.in-None.is, t.a-is, t.split-is) t.split-split.ensures
  | in-Some t ↦ rw (t.in-Some.is, t.a-is, t.split-is) t.split-split-in-Some.ensures
]

node_in_half : (c : After-insertion_edge) → c.insertion_edge.result.0.0 ≡ half (splitpoint c.args.at.0).side c.args.n.0 c.match-child.split.right.0
node_in_half c = target_node c.splitpoint-point.result c.args.at.0 c.args.n c.match-child.split.right c.insertion_edge.result c.splitpoint-point.ensures c.insertion_edge.ensures

at_in_half : (c : After-insertion_edge) → c.insertion_edge.result.1.0 ≡ (splitpoint c.args.at.0).edge
at_in_half c = target_at c.splitpoint-point.result c.args.at.0 c.args.n c.match-child.split.right c.insertion_edge.result c.splitpoint-point.ensures c.insertion_edge.ensures

pub insert_fit-requires-2 : goal.insert_fit-requires-2
insert_fit-requires-2 c =
    let v = goal.at.insert_fit-requires-2 c in
    let k = c.requires.height in
    (k, gap_half c.requires.gap _ c.len.ensures c.if-len-lt-CAPACITY.false (pair_of c.args.kv) _ (mid v.After-splitpoint-point) _ _ _ (was_cut v.Joined-child k) _ _ (node_in_half v.After-insertion_edge) (at_in_half v.After-insertion_edge))

pub returns : goal.returns
returns c =
    λ k s.
    let v = goal.at.returns c in
    gap_risen s _ c.len.ensures c.if-len-lt-CAPACITY.false (pair_of c.args.kv) _ (mid v.After-splitpoint-point) _ _ _ (was_cut v.Joined-child k) _ _ (node_in_half v.After-insertion_edge) (at_in_half v.After-insertion_edge) _ (c.insert_fit-2.ensures k)
