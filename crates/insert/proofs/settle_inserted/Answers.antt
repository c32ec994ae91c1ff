-- `insert::settle_inserted` meets its contract.
-- Assumes nothing.
use Rattle.std.proofs.Common.{List, ℕ}
use Rattle.model.specs.Tree.{Pair}
use Rattle.node.specs.Reading.{Has}
use Rattle.totals.specs.Settling.{Settles}
use Rattle.totals.proofs.Siblings.{SettleCall}
use Rattle.growing.specs.Climbs.{Gap}
use Rattle.insert.specs.Inserts.{RawOutcome, Outcome}
use Rattle.insert.proofs.Settles.{fit_ready, fit_end, right_ready, left_ready, split_end}
use Rattle.insert.proofs.settle_inserted.Goals as goal
use Rattle.insert.proofs.settle_inserted.Goals.{Joined-split, in-Some, in_default}

pub set_right-requires : goal.set_right-requires
set_right-requires c =
    let u = c.requires in
    right_ready u.gap u.pair _ _ (rw c.in-Some.is at u.outcome)

-- the node's own count, after that of its right half
ready : (c : Joined-split) → let x = c.args in (w : List ℕ) (h at child : ℕ) (s : Gap w h x.n.0 at child) (p : Pair) → RawOutcome s p x.a.now x.split → Has c.match-split.a (λ hd ns. Settles hd ns x.n.0)
ready c w h at child s p o = elim c.match-split.branch [
  | in-Some t ↦ rw t.a-is (left_ready s p _ _ (rw t.in-Some.is at o) _ t.set_right.ensures)
  | in_default t ↦ rw t.a-is (fit_ready s p (rw t.in_default.is at o))
]

done : (c : Joined-split) → let x = c.args in (w : List ℕ) (h at child : ℕ) (s : Gap w h x.n.0 at child) (p : Pair) → RawOutcome s p x.a.now x.split → (w' : List ℕ) → SettleCall c.match-split.a w' x.n.0 → Outcome s p w' x.split
done c w h at child s p o w' call = elim c.match-split.branch [
  | in-Some t ↦ rw t.in-Some.is (split_end s p _ _ (rw t.in-Some.is at o) _ t.set_right.ensures w' (rw t.a-is at call))
  | in_default t ↦ rw t.in_default.is (fit_end s p (rw t.in_default.is at o) w' (rw t.a-is at call))
]

pub settle-requires : goal.settle-requires
settle-requires c = let u = c.requires in ready (goal.at.settle-requires c).Joined-split _ _ _ _ u.gap u.pair u.outcome

pub returns : goal.returns
returns c = λ w h at child s p o. done (goal.at.returns c).Joined-split _ _ _ _ s p o _ c.settle.ensures
