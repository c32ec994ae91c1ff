-- The sizes of nodes while a tree is repaired: on the way to a hole, of a node that lost a pair, and where only a border is short.
-- Assumes nothing.
use Rattle.std.specs.Prelude.{ℕ, zero, suc, ◌+◌, ◌≤◌, List, [], ◌∷◌, length}
use Rattle.model.specs.Layout.{least, most}
use Rattle.model.specs.Tree.{Item, Node, Tree, Ctx, top, under}
use Rattle.model.specs.Insert.{Side, left, right}
use Rattle.model.specs.Sound.{AllIn, Full}

-- ---- the way to a hole

-- what a root must have is given: RL h n says that a root of n pairs with edges of height h will do
module _ (RL : ℕ → ℕ → Type 0) where
  -- a node of n pairs may stand in a hole
  abbrev pub LenBy : {h : ℕ} → Ctx (suc h) → ℕ → Type 0
  LenBy {h} top n = RL h n
  LenBy (under f c) n = (least ≤ n) × (n ≤ most)

  -- the way up from a hole, with a hole in each node
  abbrev pub CtxBy : {h : ℕ} → Ctx h → Type 0
  CtxBy top = Unit {0}
  CtxBy (under {h = h} f c) = LenBy c (length f.left + length f.right) × AllIn (Full h) f.left × AllIn (Full h) f.right × CtxBy c

-- a root as document 01 has it
abbrev pub RootLen : ℕ → ℕ → Type 0
RootLen zero n = n ≤ most
RootLen (suc h) n = (1 ≤ n) × (n ≤ most)

abbrev pub FullCtx : {h : ℕ} → Ctx h → Type 0
FullCtx = CtxBy RootLen

-- a node that lost one of its pairs
abbrev pub Short : {h : ℕ} → Ctx (suc h) → ℕ → Type 0
Short top n = n ≤ most
Short (under f c) n = (least ≤ suc n) × (n ≤ most)

-- ---- a tree whose only short nodes lie on the border

-- P of all edges but the last, Q of that
abbrev pub LastKids : {A : Type 0} → (A → Type 0) → (A → Type 0) → A → List (Item A) → Type 0
LastKids P Q e [] = Q e
LastKids P Q e (x ∷ r) = P e × LastKids P Q x.edge r

-- P of all edges but the one on the border, Q of that
abbrev pub EndKids : {A : Type 0} → Side → (A → Type 0) → (A → Type 0) → Node A → Type 0
EndKids right P Q t = LastKids P Q t.first t.rest
EndKids left P Q t = Q t.first × AllIn P t.rest

abbrev pub Bordered : Side → (h : ℕ) → Tree h → Type 0
Bordered s zero t = Unit {0}
Bordered s (suc h) t = (length t.rest ≤ most) × EndKids s (Full h) (Bordered s h) t
