-- The shape of a load under way: perfect trees left of the way to the last leaf, nothing right of it; and an empty right side.
-- Assumes nothing.
use Rattle.std.specs.Prelude.{ℕ, zero, suc, ◌+◌, ◌≤◌, ◌≡◌, [], length}
use Rattle.model.specs.Layout.{most}
use Rattle.model.specs.Tree.{Tree, Ctx, top, under}
use Rattle.model.specs.Sound.{AllIn}
use Rattle.model.specs.Sizes.{RootLen, LastKids}

-- every node has 11 pairs
abbrev pub Perfect : (h : ℕ) → Tree h → Type 0
Perfect zero t = Unit {0}
Perfect (suc h) t = (length t.rest ≡ most) × Perfect h t.first × AllIn (Perfect h) t.rest

-- an internal root has a pair
abbrev pub RootSome : {h : ℕ} → Ctx (suc h) → ℕ → Type 0
RootSome {h = zero} top n = Unit {0}
RootSome {h = suc h} top n = 1 ≤ n
RootSome (under f c) n = Unit {0}

abbrev pub Inner : {h : ℕ} → Ctx h → Type 0
Inner top = ⊥
Inner (under f c) = Unit {0}

-- nothing stands right of the way, and perfect trees left of it
abbrev pub Filling : {h : ℕ} → Ctx h → Type 0
Filling top = Unit {0}
Filling (under {h = h} f c) = (f.right ≡ []) × (length f.left ≤ most) × AllIn (Perfect h) f.left × RootSome c (length f.left) × Filling c

-- a border tree before it is stocked
abbrev pub Plenty : (h : ℕ) → Tree h → Type 0
Plenty zero t = Unit {0}
Plenty (suc h) t = (length t.rest ≤ most) × LastKids (Perfect h) (Plenty h) t.first t.rest

abbrev pub RootPlenty : (h : ℕ) → Tree h → Type 0
RootPlenty zero t = ⊥
RootPlenty (suc h) t = RootLen h (length t.rest) × LastKids (Perfect h) (Plenty h) t.first t.rest

-- an empty right side: h nodes, the leaf with the lowest number
abbrev pub pillar : (h : ℕ) → ℕ → Tree h
pillar zero n = tt
pillar (suc h) n = record { no = n + h; first = pillar h n; rest = [] }
