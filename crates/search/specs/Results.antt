-- What the searches hand back, as records and enums of the code.
-- Assumes nothing.
use Rattle.std.specs.Prelude.{ℕ, zero, ◌≡◌, ◌≤◌, ◌<◌, List, length, get_or, Result, Ok, Err}
use Rattle.model.specs.Tree.{Ctx, top, under}
use Rattle.model.specs.Search.{Spot, at, gap}
use Rattle.model.specs.Range as range
use Rattle.model.specs.Range.{kv, edge, Fork, parted, together}
use Rattle.model.specs.declared.SearchBound.{SearchBound}
use Rattle.node.specs.declared.Place.{Place}
use Rattle.search.specs.declared.Handle.{Handle}
use Rattle.search.specs.declared.SearchResult.{SearchResult}
use Rattle.search.specs.declared.SearchResult.TheVariants.{Found, GoDown}
use Rattle.search.specs.declared.IndexResult.{IndexResult}
use Rattle.search.specs.declared.IndexResult.TheVariants.{Kv, Edge}
use Rattle.search.specs.declared.Parting.{Parting}

-- the place i of the node n, which has h levels below it
abbrev pub handle : ℕ → ℕ → ℕ → Handle
handle n h i = record { node = record { 0 = n }; height = h; at = record { 0 = i } }

-- a leaf edge
abbrev pub leaf_edge : Ctx zero → Handle
leaf_edge top = handle 0 0 0
leaf_edge (under f c) = handle f.no 0 (length f.left)

-- where a search ends
abbrev pub spotted : Spot → SearchResult
spotted (at {h = h} c n l e x r) = Found (handle n h (length l))
spotted (gap c) = GoDown (leaf_edge c)

abbrev pub indexed : range.IndexResult → IndexResult
indexed (kv i) = Kv (record { 0 = i })
indexed (edge i) = Edge (record { 0 = i })

abbrev pub edged : range.BoundEdge → Place × SearchBound
edged d = (record { 0 = d.at }, d.bound)

abbrev pub forked : Fork → Result Parting Handle
forked (parted {h = h} c t i j b) = Ok (record { node = record { 0 = t.no }; height = h; lower = record { 0 = i }; upper = record { 0 = j }; bounds = b })
forked (together c) = Err (leaf_edge c)

-- k is one of the keys ks, from the place s on
pub record Among (k s : ℕ) (ks : List ℕ) : Type 0 where
  pub place : ℕ
  pub from : s ≤ place
  pub inside : place < length ks
  pub is : k ≡ get_or ks place 0
