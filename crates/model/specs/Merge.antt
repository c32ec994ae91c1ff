-- Joining two runs: where a key is in both, the second's pair wins.
-- Assumes nothing.
use Rattle.std.specs.Prelude.{ℕ, cond, List, [], ◌∷◌, eqb, ltb}
use Rattle.std.proofs.Math.Option.{Option, some, none}
use Rattle.model.specs.Tree.{Pair}
use Rattle.model.specs.Map.{insert}

-- p, the first of the first run, against the second; `rest` joins what follows p
abbrev pub against : Pair → (List Pair → List Pair) → List Pair → List Pair
against p rest [] = p ∷ rest []
against p rest (q ∷ b) =
    cond (ltb p.key q.key) (p ∷ rest (q ∷ b))
    (cond (eqb p.key q.key) (q ∷ rest b) (q ∷ against p rest b))

abbrev pub merge : List Pair → List Pair → List Pair
merge [] b = b
merge (p ∷ a) b = against p (merge a) b

-- what the documentation describes: every pair of the second inserted into the first
abbrev pub insert_all : List Pair → List Pair → List Pair
insert_all [] a = a
insert_all (q ∷ b) a = insert_all b (insert q.key q.val a)

-- the first that is there
abbrev pub or_else : Option ℕ → Option ℕ → Option ℕ
or_else none o = o
or_else (some v) o = some v
