-- The pairs right of a leaf edge of one tree, pushed into another.
-- Assumes nothing.
use Rattle.std.specs.Prelude.{ℕ, ◌≤◌, ◌≡◌, List, ◌++◌, length}
use Rattle.model.specs.Layout.{Sized}
use Rattle.model.specs.Tree.{Pair, after}
use Rattle.model.specs.State.{State}
use Rattle.model.specs.Load.{push_all, begun}
use Rattle.model.specs.Parting.{part_off}
use Rattle.model.specs.Room.{nodes_for}
use Rattle.model.specs.Promise.{Holds}
use Rattle.search.specs.declared.Handle.{Handle}
use Rattle.navigate.specs.Places.{EdgeAt}
use Rattle.standing.specs.Heads.{Rest}
use Rattle.appending.specs.Pushes.{LoadIn}

-- w is a load of the first of the pairs `all`; the others, `left` of them, are right of the edge `at`. There are nodes for all
pub record Moving (s : State) (g : Rest) (all : List Pair) (w : List ℕ) (leaf left : ℕ) (at : Handle) : Type 0 where
  pub done : List Pair
  pub edge : EdgeAt s at
  pub split : done ++ after edge.way ≡ all
  pub many : left ≡ length (after edge.way)
  pub load : LoadIn w g leaf (push_all done begun)
  pub room : nodes_for (length all) ≤ g.size

pub record MovingIn (v w : List ℕ) (leaf left : ℕ) (at : Handle) : Type 0 where
  pub state : State
  pub holds : Holds v state
  pub rest : Rest
  pub all : List Pair
  pub moving : Moving state rest all w leaf left at

-- the slice w has the size of n nodes, enough for the pairs that a cut at k takes from s, `pairs` of them
pub record Upper (k : ℕ) (s : State) (w : List ℕ) (pairs n : ℕ) : Type 0 where
  pub sized : Sized n (length w)
  pub pairs_are : pairs ≡ length (part_off k s)
  pub room : nodes_for pairs ≤ n

pub record UpperIn (k : ℕ) (v w : List ℕ) (pairs n : ℕ) : Type 0 where
  pub state : State
  pub holds : Holds v state
  pub upper : Upper k state w pairs n
