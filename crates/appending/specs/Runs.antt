-- A run of words as pairs, and the arena's words while it is pushed.
-- Assumes nothing.
use Rattle.std.specs.Prelude.{ℕ, ◌≤◌, ◌≡◌, List, length}
use Rattle.model.specs.Layout.{largest_count, header, root_word}
use Rattle.model.specs.Map.{Rising}
use Rattle.model.specs.Mark.{Mark, seen_of, mark_of}
use Rattle.model.specs.State.{formatted}
use Rattle.model.specs.Words.{words_of}
use Rattle.model.specs.Tree.{Pair}
use Rattle.standing.specs.Heads.{Rest}
use Rattle.model.specs.Load.{Loading, push_all, begun, pairs_of, Even}
use Rattle.model.specs.Room.{nodes_for}
use Rattle.appending.specs.Pushes.{LoadIn}

-- an empty load, with nodes enough for the run
pub record Begun (w : List ℕ) (g : Rest) (leaf : ℕ) (run : List ℕ) : Type 0 where
  pub load : LoadIn w g leaf begun
  pub room : nodes_for (length (pairs_of run)) ≤ g.size

-- there is such, and the run is even
pub record BegunIn (w : List ℕ) (run : List ℕ) : Type 0 where
  pub rest : Rest
  pub begins : Begun w rest (header w root_word) run
  pub even : Even (length run)

-- the words are the load l
pub record Ended (w : List ℕ) (g : Rest) (l : Loading) : Type 0 where
  pub leaf : ℕ
  pub load : LoadIn w g leaf l

pub record EndedIn (w : List ℕ) : Type 0 where
  pub rest : Rest
  pub pairs : List Pair
  pub ended : Ended w rest (push_all pairs begun)

-- the header's words of a load of ps with the mark m
pub record Tells (m : Mark) (ps : List Pair) (pairs seen mark : ℕ) : Type 0 where
  pub pairs_are : pairs ≡ length ps
  pub seen_is : seen ≡ seen_of m
  pub mark_is : mark ≡ mark_of m

-- a formatted arena of n nodes, and a run to load into it
pub record Loads (n : ℕ) (w : List ℕ) (run : List ℕ) : Type 0 where
  pub words : w ≡ words_of (formatted n)
  pub some : 1 ≤ n
  pub few : n ≤ largest_count
  pub even : Even (length run)
  pub rising : Rising (pairs_of run)
  pub room : nodes_for (length (pairs_of run)) ≤ n

pub record LoadsIn (w : List ℕ) (run : List ℕ) : Type 0 where
  pub count : ℕ
  pub loads : Loads count w run
