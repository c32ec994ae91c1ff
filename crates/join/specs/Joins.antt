-- What the steps of a join ask for.
-- Assumes nothing.
use Rattle.std.specs.Prelude.{ℕ, ◌≤◌, ◌≡◌, List, length}
use Rattle.model.specs.Layout.{Sized, header, count_word}
use Rattle.model.specs.Map.{Rising}
use Rattle.model.specs.State.{State}
use Rattle.model.specs.Load.{pairs_of, Even}
use Rattle.model.specs.Room.{nodes_for}
use Rattle.model.specs.Join.{joined_run}
use Rattle.model.specs.WellFormed.{WellFormed}
use Rattle.model.specs.Promise.{Holds}
use Rattle.merging.specs.Heads.{Fits}

-- an arena of n nodes, and a run for which they are enough
pub record Anew (n : ℕ) (w run : List ℕ) : Type 0 where
  pub count_is : header w count_word ≡ n
  pub sized : Sized n (length w)
  pub even : Even (length run)
  pub rising : Rising (pairs_of run)
  pub room : nodes_for (length (pairs_of run)) ≤ n

pub record AnewIn (w run : List ℕ) : Type 0 where
  pub count : ℕ
  pub anew : Anew count w run

-- two arenas that are joined without a refusal
pub record Joinable (w v o : List ℕ) : Type 0 where
  pub first : WellFormed w
  pub second : WellFormed v
  pub fits : Fits w v o
  pub room : (s t : State) → Holds w s → Holds v t → nodes_for (length (joined_run s t)) ≤ s.size
