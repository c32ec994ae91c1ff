-- Cutting off the upper part: split.rs on values. The path of the key is the way to a leaf edge; what is left of it stays.
-- Assumes nothing.
use Rattle.std.specs.Prelude.{ℕ, zero, List, [], ◌∷◌, ◌++◌}
use Rattle.model.specs.Tree.{Pair, Ctx, top, under, Whole, plug, after, numbers_in, numbers}
use Rattle.model.specs.Nodes.{returned, Grown}
use Rattle.model.specs.Insert.{right}
use Rattle.model.specs.Search.{reaches, sink}
use Rattle.model.specs.Border.{fix_border}
use Rattle.model.specs.State.{State}

-- the leaf edge that parts the keys below k from those at or above it
abbrev pub path_of : ℕ → Whole → Ctx zero
path_of k w = sink (reaches k) w.height top w.root

-- the way with nothing right of it
abbrev pub trimmed : {h : ℕ} → Ctx h → Ctx h
trimmed top = top
trimmed (under f c) = under (record { no = f.no; left = f.left; right = [] }) (trimmed c)

-- the numbers of all nodes right of the way, from the bottom upwards
abbrev pub dropped : {h : ℕ} → Ctx h → List ℕ
dropped top = []
dropped (under {h = h} f c) = numbers_in (numbers h) f.right ++ dropped c

-- returned in turn
abbrev pub returned_all : List ℕ → List ℕ → List ℕ
returned_all [] free = free
returned_all (n ∷ ns) free = returned_all ns (returned n free)

-- what stays, before its right border is repaired, and after
abbrev pub cut_along : Ctx zero → List ℕ → Grown
cut_along c free = record { whole = plug (trimmed c) tt; free = returned_all (dropped c) free }

abbrev pub cut_off : ℕ → State → State
cut_off k s =
    let g = cut_along (path_of k s.whole) s.free in
    let r = fix_border right g.whole g.free in
    record { size = s.size; whole = r.whole; free = r.free; mark = s.mark }

-- the pairs that go
abbrev pub part_off : ℕ → State → List Pair
part_off k s = after (path_of k s.whole)
