-- The arena's words while a tree is being changed: the header about its root, and a tree with a hole, or a whole one.
-- Assumes nothing.
use Rattle.std.specs.Prelude.{ℕ, pred, ◌≡◌, List, [], ◌∷◌, length}
use Rattle.model.specs.Layout.{format_number, header_size, NodeVal, Arena}
use Rattle.model.specs.Tree.{Tree, Ctx, top, under}
use Rattle.model.specs.Nodes.{Grown}
use Rattle.model.specs.Mark.{seen_of, mark_of}
use Rattle.model.specs.State.{State, list}
use Rattle.model.specs.Words.{root_no, first_or}
use Rattle.standing.specs.Standing.{root_of, Hole}
use Rattle.standing.specs.Totals.{Totals}

-- the header words that a change of the tree leaves alone
pub record Rest : Type 0 where
  pub size : ℕ
  pub pairs : ℕ
  pub seen : ℕ
  pub mark : ℕ

abbrev pub rest_of : State → Rest
rest_of s = record { size = s.size; pairs = length (list s); seen = seen_of s.mark; mark = mark_of s.mark }

abbrev pub head_words : Rest → ℕ → ℕ → List ℕ → List ℕ
head_words g root height free = format_number ∷ g.size ∷ header_size ∷ root ∷ height ∷ g.pairs ∷ first_or free ∷ length free ∷ g.seen ∷ g.mark ∷ []

-- the height of the tree that a way leads up in
abbrev pub top_of : {h : ℕ} → Ctx h → ℕ
top_of (top {h = h}) = h
top_of (under f c) = top_of c

-- the words are a tree with a hole that t fills; of the counts of its nodes P is known
pub record HoleBy (P : List NodeVal → Type 0) (w : List ℕ) (g : Rest) {h : ℕ} (c : Ctx h) (t : Tree h) (free : List ℕ) : Type 0 where
  pub nodes : List NodeVal
  pub arena : Arena w (head_words g (root_of c (root_no h t)) (pred (top_of c)) free) nodes
  pub stand : Hole nodes c t free
  pub many : length nodes ≡ g.size
  pub told : P nodes

-- they are a whole tree
abbrev pub ClosedBy : (List NodeVal → Type 0) → List ℕ → Rest → Grown → Type 0
ClosedBy P w g t = HoleBy P w g {h = t.whole.height} top t.whole.root t.free

-- with true counts
abbrev pub HoleIn : List ℕ → Rest → {h : ℕ} → Ctx h → Tree h → List ℕ → Type 0
HoleIn w g c t free = HoleBy Totals w g c t free

abbrev pub ClosedIn : List ℕ → Rest → Grown → Type 0
ClosedIn w g t = ClosedBy Totals w g t

-- whatever the counts are
abbrev pub Uncounted : List NodeVal → Type 0
Uncounted ns = Unit {0}
