-- What the fork means, in any tree whose keys rise, as a sound state's do: where it is, and what the bounds for the children say there.
-- Assumes nothing.
use Rattle.std.specs.Prelude.{ℕ, zero, suc, ◌-◌, ◌≤◌, ◌<◌, ◌≡◌, Bool, true, false, not, List, [], ◌∷◌, ◌++◌, length}
use Rattle.std.proofs.Math.Option.{some}
use Rattle.model.specs.declared.SearchBound.{SearchBound}
use Rattle.model.specs.declared.SearchBound.TheVariants.{AllIncluded}
use Rattle.model.specs.declared.Range.{Range}
use Rattle.model.specs.Lists.{All}
use Rattle.model.specs.Tree.{Pair, Item, Node, Tree, Ctx, under, Whole, plug, flat, flat_of, before, after}
use Rattle.model.specs.Range.{from_start, to_end, open_at, Fork, parted, together, fork_of}
use Rattle.model.specs.Map.{Below, Above, Rising, range, closed_at}

-- ---- a node's edges

-- the way to the edge i of a node, and what is below it
abbrev pub down_at : {h : ℕ} → Ctx (suc h) → Tree (suc h) → ℕ → Ctx h
down_at c t i = under (record { no = t.no; left = (open_at i [] t.first t.rest).left; right = (open_at i [] t.first t.rest).right }) c

abbrev pub hole_at : {A : Type 0} → Node A → ℕ → A
hole_at t i = (open_at i [] t.first t.rest).hole

-- the first n pairs of these, and all below the edges between them
abbrev pub inner : {A : Type 0} → (A → List Pair) → ℕ → List (Item A) → List Pair
inner f zero xs = []
inner f (suc n) [] = []
inner f (suc zero) (x ∷ xs) = x.pair ∷ []
inner f (suc (suc n)) (x ∷ xs) = x.pair ∷ (f x.edge ++ inner f (suc n) xs)

-- the pairs of a node between its edge i and its edge j
abbrev pub between_at : {A : Type 0} → (A → List Pair) → Node A → ℕ → ℕ → List Pair
between_at f t i j = inner f (j - i) (open_at i [] t.first t.rest).right

-- ---- the edge of a bound

-- the keys right of an end bound. Those right of a start bound are the ones that it admits
abbrev pub past_end : SearchBound → ℕ → Bool
past_end b k = not (to_end b k)

-- a key belongs below the edge that d leads to
abbrev pub Belongs : {h : ℕ} → Ctx h → ℕ → Type 0
Belongs d k = Below k (before d) × Above k (after d)

-- d leads to the edge of the bound b, with b' for the child there. `over b k` says that the key k is right of the bound b
pub record Divides (over : SearchBound → ℕ → Bool) (b b' : SearchBound) {h : ℕ} (d : Ctx h) : Type 0 where
  -- the pairs before the edge are left of the bound, those after it right of the bound
  pub befores : All (λ (p : Pair). over b p.key ≡ false) (before d)
  pub afters : All (λ (p : Pair). over b p.key ≡ true) (after d)
  -- the child's bound says of each key that belongs there what the bound says
  pub same : (k : ℕ) → Belongs d k → over b' k ≡ over b k
  -- where it names a key, it is the bound itself, and the key belongs there: a bound beside its own key is replaced
  pub own : (k : ℕ) → closed_at b' ≡ some k → (b' ≡ b) × Belongs d k

-- ---- the fork

-- the node t with the edges i and j, and b, the bounds for the children: there the range r parts. The pairs of the nodes above stand before
-- the one edge or after the other, so none of them is in the range, and t is the highest node whose two edges differ
pub record PartsAt (r : Range) (w : Whole) {h : ℕ} (c : Ctx (suc h)) (t : Tree (suc h)) (i j : ℕ) (b : Range) : Type 0 where
  pub whole : plug c t ≡ w
  pub apart : i < j
  pub inside : j ≤ length t.rest
  pub lower : Divides from_start r.start b.start (down_at c t i)
  pub upper : Divides past_end r.end b.end (down_at c t j)
  -- the range is all that lies between the edges, and below each of the two what the bound for the child there admits
  pub pairs : range r (flat_of w) ≡ range (record { start = b.start; end = AllIncluded }) (flat h (hole_at t i)) ++ (between_at (flat h) t i j ++ range (record { start = AllIncluded; end = b.end }) (flat h (hole_at t j)))

-- the leaf edge where the two coincide: the range is empty
pub record MeetsAt (r : Range) (w : Whole) (c : Ctx zero) : Type 0 where
  pub whole : plug c tt ≡ w
  pub befores : All (λ (p : Pair). from_start r.start p.key ≡ false) (before c)
  pub afters : All (λ (p : Pair). past_end r.end p.key ≡ true) (after c)
  pub pairs : range r (flat_of w) ≡ []

abbrev pub Forks : Range → Whole → Fork → Type 0
Forks r w (parted c t i j b) = PartsAt r w c t i j b
Forks r w (together c) = MeetsAt r w c

-- the law of the fork. It holds of every range; a bad one is empty
abbrev pub ForkRight : Type 0
ForkRight = (r : Range) (w : Whole) → Rising (flat_of w) → Forks r w (fork_of r w)
