-- Changes of the columns of one node or of two.
-- Assumes nothing.
use Rattle.std.specs.Prelude.{ℕ, ◌<◌, ◌≡◌, List, length, set}
use Rattle.node.specs.Fields.{Fields, Column, start_of, column, with_column, numbered, row}

-- the column k of node n, from the word `start` on, has `count` words in use
pub record In (fs : List Fields) (n : ℕ) (k : Column) (start count : ℕ) : Type 0 where
  pub node : n < length fs
  pub start_is : start ≡ start_of k
  pub count_is : count ≡ length (column k (row fs n))

-- the column k of node n made to xs
abbrev pub put_column : List Fields → ℕ → Column → List ℕ → List Fields
put_column fs n k xs = set fs n (with_column k xs (row fs n))

-- that of l made to xs, and that of r to ys
abbrev pub put_columns : List Fields → ℕ → ℕ → Column → List ℕ → List ℕ → List Fields
put_columns fs l r k xs ys = set (set fs l (with_column k xs (row fs l))) r (with_column k ys (row fs r))

abbrev pub with_count : ℕ → Fields → Fields
with_count m f = numbered f.state m f.parent f.place f
