-- What the parts of an insertion ask for and leave.
-- Assumes nothing.
use Rattle.std.specs.Prelude.{Option, None, Some, Result, Ok, Err, ℕ, suc, ◌+◌, ◌≤◌, ◌≡◌, List, length}
use Rattle.model.specs.Layout.{word_at, parent_word, place_word}
use Rattle.model.specs.Tree.{Pair}
use Rattle.model.specs.Nodes.{Grown}
use Rattle.model.specs.Insert.{needed}
use Rattle.model.specs.Mark.{spend}
use Rattle.model.specs.State.{State, Reply, list}
use Rattle.model.specs.declared.Answer.{Answer}
use Rattle.model.specs.declared.Answer.TheVariants.{Done, Value, NoRoom}
use Rattle.node.specs.declared.NodeNo.{NodeNo}
use Rattle.node.specs.declared.Place.{Place}
use Rattle.node.specs.declared.LeftOrRight.{LeftOrRight}
use Rattle.node.specs.declared.LeftOrRight.TheVariants.{Left, Right}
use Rattle.node.specs.Reading.{pair_of, ascent_of}
use Rattle.leaf.specs.declared.SplitResult.{SplitResult}
use Rattle.search.specs.declared.Handle.{Handle}
use Rattle.navigate.specs.Places.{EdgeAt}
use Rattle.standing.specs.Heads.{Rest, rest_of, ClosedIn}
use Rattle.growing.specs.Climbs.{Gap, Fitted, Risen, FittedRaw, RisenRaw, Climbing}
use Rattle.model.specs.declared.Refused.{Refused}
use Rattle.model.specs.declared.Refused.TheVariants as why

-- the edge in a half
abbrev pub target_of : LeftOrRight Place → NodeNo → NodeNo → NodeNo × Place
target_of (Left i) l r = (l, i)
target_of (Right i) l r = (r, i)

-- what an insertion at a gap leaves
abbrev pub Outcome : {w : List ℕ} {h node at child : ℕ} → Gap w h node at child → Pair → List ℕ → Option SplitResult → Type 0
Outcome s p w None = Fitted s p w
Outcome s p w (Some r) = Risen s p w (pair_of r.kv) r.right.0

-- before the counts are set right
abbrev pub RawOutcome : {w : List ℕ} {h node at child : ℕ} → Gap w h node at child → Pair → List ℕ → Option SplitResult → Type 0
RawOutcome s p w None = FittedRaw s p w
RawOutcome s p w (Some r) = RisenRaw s p w (pair_of r.kv) r.right.0

pub record Unsettled (w : List ℕ) (n : ℕ) (r : Option SplitResult) : Type 0 where
  pub was : List ℕ
  pub height : ℕ
  pub at : ℕ
  pub child : ℕ
  pub gap : Gap was height n at child
  pub pair : Pair
  pub outcome : RawOutcome gap pair w r

-- the node to stand right of the new pair, as a number: none at a leaf; and the levels below its edge, k more than 1
abbrev pub number : Option NodeNo → ℕ
number None = 0
number (Some c) = c.0

abbrev pub level : Option NodeNo → ℕ → ℕ
level None k = 0
level (Some c) k = suc k

-- a gap for such a node
pub record GapAt (w : List ℕ) (node at : ℕ) (child : Option NodeNo) : Type 0 where
  pub height : ℕ
  pub gap : Gap w (level child height) node at (number child)

-- the climb to t, from a node that hangs nowhere
pub record ClimbIn (w : List ℕ) (g : Rest) (r : SplitResult) (t : Grown) : Type 0 where
  pub node : ℕ
  pub levels : ℕ
  pub climb : Climbing w g node levels (pair_of r.kv) r.right.0 t
  pub hangs : ascent_of (word_at w node parent_word) (word_at w node place_word) ≡ None

pub record AtRoot (w : List ℕ) (r : SplitResult) : Type 0 where
  pub rest : Rest
  pub goal : Grown
  pub climb : ClimbIn w rest r goal

-- the climb to t is over, or it is to go up from a node
abbrev pub Upward : List ℕ → Rest → ℕ → Option SplitResult → Grown → Type 0
Upward w g node None t = ClosedIn w g t
Upward w g node (Some r) t = (levels : ℕ) × Climbing w g node levels (pair_of r.kv) r.right.0 t

-- a leaf edge, and nodes enough
pub record Roomy (s : State) (d : Handle) : Type 0 where
  pub edge : EdgeAt s d
  pub room : needed edge.way ≤ length s.free

-- ---- put

-- an accepted put before it is counted and its key spent: the tree and the free nodes are as the call leaves them
pub record Placed (k : ℕ) (s : State) (d : Reply) (w : List ℕ) (r : Answer) (more : ℕ) : Type 0 where
  pub said : d.answer ≡ r
  pub size_is : d.state.size ≡ s.size
  pub pairs_are : length (list d.state) ≡ length (list s) + more
  pub mark_is : d.state.mark ≡ spend k s.mark
  pub held : ClosedIn w (rest_of s) (record { whole = d.state.whole; free = d.state.free })

-- w is the words before, w' after; the result, the former value or a refusal, which is for lack of room alone
abbrev pub PutIn : ℕ → State → Reply → List ℕ → List ℕ → Result (Option ℕ) Refused → Type 0
PutIn k s d w w' (Ok None) = Placed k s d w' Done 1
PutIn k s d w w' (Ok (Some v)) = Placed k s d w' (Value v) 0
PutIn k s d w w' (Err why.NoRoom) = (d ≡ record { answer = NoRoom; state = s }) × (w' ≡ w)
PutIn k s d w w' (Err why.BadArena) = ⊥
PutIn k s d w w' (Err why.BadRange) = ⊥
PutIn k s d w w' (Err why.BadOrder) = ⊥
PutIn k s d w w' (Err why.BadSize) = ⊥
PutIn k s d w w' (Err why.BadImage) = ⊥
PutIn k s d w w' (Err why.StaleCursor) = ⊥
PutIn k s d w w' (Err why.NotRising) = ⊥
PutIn k s d w w' (Err why.Spent) = ⊥
PutIn k s d w w' (Err why.Older) = ⊥
