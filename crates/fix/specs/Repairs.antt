-- The arena's words during the repair: a tree with a hole; which sibling is chosen; the repair under way, and what it leaves.
-- Assumes nothing.
use Rattle.std.specs.Prelude.{Option, None, Some, Result, Ok, Err, ℕ, suc, ◌+◌, ◌≤◌, ◌≡◌, Bool, true, false, List, [], ◌∷◌, length}
use Rattle.model.specs.Layout.{most, header, free_word}
use Rattle.model.specs.Tree.{Item, Node, Tree, Ctx, top, under, fill, Twin}
use Rattle.model.specs.Nodes.{Grown, returned}
use Rattle.model.specs.Remove.{pop, shrink, join, can_merge, steal, lender, taker}
use Rattle.model.specs.Sizes.{FullCtx, Short}
use Rattle.model.specs.Insert.{Side, left, right}
use Rattle.standing.specs.Heads.{Rest, HoleIn, ClosedIn}
use Rattle.node.specs.declared.NodeNo.{NodeNo}
use Rattle.node.specs.declared.LeftOrRight.{LeftOrRight}
use Rattle.node.specs.declared.LeftOrRight.TheVariants.{Left, Right}
use Rattle.balance.specs.declared.BalancingContext.{BalancingContext}
use Rattle.fix.specs.declared.EmptyRoot.{EmptyRoot}

-- the side of a sibling, and the two neighbours, whichever of them it is
abbrev pub side_of : LeftOrRight BalancingContext → Side
side_of (Left b) = left
side_of (Right b) = right

abbrev pub both_of : LeftOrRight BalancingContext → BalancingContext
both_of (Left b) = b
both_of (Right b) = b

-- two neighbours
abbrev pub context_of : {A : Type 0} → ℕ → List (Item (Node A)) → Twin (Node A) → BalancingContext
context_of n l w = record { parent = record { 0 = n }; at = record { 0 = length l }; left = record { 0 = w.left.no }; right = record { 0 = w.right.no } }

pub record Neighbours (w : List ℕ) (g : Rest) (b : BalancingContext) : Type 0 where
  pub height : ℕ
  pub ctx : Ctx (suc (suc height))
  pub no : ℕ
  pub lows : List (Item (Tree (suc height)))
  pub twin : Twin (Tree (suc height))
  pub highs : List (Item (Tree (suc height)))
  pub free : List ℕ
  pub held : HoleIn w g (under (record { no = no; left = lows; right = record { pair = twin.pair; edge = twin.right } ∷ highs }) ctx) twin.left free
  pub is : context_of no lows twin ≡ b

-- they can be merged
pub record Merges (w : List ℕ) (b : BalancingContext) : Type 0 where
  pub rest : Rest
  pub both : Neighbours w rest b
  pub can : can_merge both.twin ≡ true

abbrev pub MergeCall : List ℕ → List ℕ → BalancingContext → Type 0
MergeCall w w' b = (g : Rest) (q : Neighbours w g b) → can_merge q.twin ≡ true → HoleIn w' g q.ctx (fill q.no q.lows (join q.twin) q.highs) (returned q.twin.right.no q.free)

-- k pairs can be moved, out of the one at the side s
pub record Stealing (s : Side) (w : List ℕ) (b : BalancingContext) (k : ℕ) : Type 0 where
  pub rest : Rest
  pub both : Neighbours w rest b
  pub some : 1 ≤ k
  pub lent : k ≤ length (lender s both.twin).rest
  pub room : length (taker s both.twin).rest + k ≤ most

abbrev pub StealCall : Side → List ℕ → List ℕ → BalancingContext → ℕ → Type 0
StealCall s w w' b k = (g : Rest) (q : Neighbours w g b) → 1 ≤ k → k ≤ length (lender s q.twin).rest → length (taker s q.twin).rest + k ≤ most
    → HoleIn w' g (under (record { no = q.no; left = q.lows; right = record { pair = (steal s k q.twin).pair; edge = (steal s k q.twin).right } ∷ q.highs }) q.ctx) (steal s k q.twin).left q.free

-- the repair is going to t: the node `node` has lost a pair
pub record Mending (w : List ℕ) (g : Rest) (node : ℕ) (t : Grown) : Type 0 where
  pub height : ℕ
  pub way : Ctx (suc height)
  pub tree : Tree (suc height)
  pub free : List ℕ
  pub held : HoleIn w g way tree free
  pub node_is : tree.no ≡ node
  pub full : FullCtx way
  pub short : Short way (length tree.rest)
  pub same : shrink way tree free ≡ t

-- there is a repair under way
pub record Mends (w : List ℕ) (node : ℕ) : Type 0 where
  pub rest : Rest
  pub end : Grown
  pub mending : Mending w rest node end

-- the root was left without pairs
pub record Emptied (w : List ℕ) (g : Rest) (t : Grown) : Type 0 where
  pub height : ℕ
  pub tree : Tree (suc height)
  pub free : List ℕ
  pub held : HoleIn w g (top {h = suc height}) tree free
  pub bare : tree.rest ≡ []
  pub same : pop height tree free ≡ t

-- the sibling of the node t, whose parent n has l and r left and right of it
abbrev pub sibling : {A : Type 0} → ℕ → List (Item (Node A)) → Node A → List (Item (Node A)) → Option (LeftOrRight BalancingContext)
sibling n (x ∷ l) t r = Some (Left (record { parent = record { 0 = n }; at = record { 0 = length l }; left = record { 0 = x.edge.no }; right = record { 0 = t.no } }))
sibling n [] t (x ∷ r) = Some (Right (record { parent = record { 0 = n }; at = record { 0 = 0 }; left = record { 0 = t.no }; right = record { 0 = x.edge.no } }))
sibling n [] t [] = None

abbrev pub chosen : {h : ℕ} → Ctx (suc h) → Tree (suc h) → Option (LeftOrRight BalancingContext)
chosen top t = None
chosen (under f c) t = sibling f.no f.left t f.right

-- what a repair through the parent makes of the words w; a merge returns one node
abbrev pub Fixing : Result (Option NodeNo) EmptyRoot → List ℕ → List ℕ → Rest → Grown → Type 0
Fixing (Ok (Some p)) w w' g t = Mending w' g p.0 t × (header w' free_word ≡ header w free_word + 1)
Fixing (Ok None) w w' g t = ClosedIn w' g t
Fixing (Err e) w w' g t = Emptied w' g t

-- what the whole repair leaves, by its answer
abbrev pub Ended : Bool → List ℕ → Rest → Grown → Type 0
Ended true w g t = ClosedIn w g t
Ended false w g t = Emptied w g t
