-- The arena's words during the repair of a border.
-- Assumes nothing.
use Rattle.std.specs.Prelude.{ℕ, zero, suc, ◌+◌, ◌-◌, ◌≤◌, ◌≡◌, cond, List, ltb, length}
use Rattle.model.specs.Lists.{All, Rises, times}
use Rattle.model.specs.Layout.{largest_count, word_at, length_word, edges_word}
use Rattle.model.specs.Tree.{Pair, Tree, Ctx, top, has_whole}
use Rattle.model.specs.Mark.{Covers}
use Rattle.model.specs.Map.{Rising}
use Rattle.model.specs.State.{State, list}
use Rattle.model.specs.Nodes.{Grown}
use Rattle.model.specs.Insert.{Side, left, right}
use Rattle.model.specs.Border.{tops_of, down_of, fix_down, fix_border}
use Rattle.model.specs.Words.{words_of}
use Rattle.model.specs.Sizes.{Bordered}
use Rattle.model.specs.Promise.{Holds}
use Rattle.standing.specs.Heads.{Rest, HoleIn}
use Rattle.node.specs.declared.NodeNo.{NodeNo}
use Rattle.node.specs.declared.Place.{Place}
use Rattle.node.specs.declared.LeftOrRight.{LeftOrRight}
use Rattle.node.specs.declared.LeftOrRight.TheVariants.{Left, Right}
use Rattle.balance.specs.declared.BalancingContext.{BalancingContext}
use Rattle.border.specs.declared.Border.{Border}
use Rattle.border.specs.declared.Border.TheVariants as edge

-- the side that a border is at
abbrev pub side_at : Border → Side
side_at edge.Left = left
side_at edge.Right = right

-- the neighbours at a place of the node n, in words
abbrev pub kv_at : List ℕ → NodeNo → Place → BalancingContext
kv_at w n i = record { parent = n; at = i; left = record { 0 = word_at w n.0 (edges_word + i.0) }; right = record { 0 = word_at w n.0 (edges_word + (i.0 + 1)) } }

-- the sibling of its last child, or of its first one
abbrev pub border_kv : Border → List ℕ → NodeNo → LeftOrRight BalancingContext
border_kv edge.Right w n = Left (kv_at w n (record { 0 = word_at w n.0 length_word - 1 }))
border_kv edge.Left w n = Right (kv_at w n (record { 0 = 0 }))

-- and that child
abbrev pub border_child : LeftOrRight BalancingContext → NodeNo
border_child (Left b) = b.right
border_child (Right b) = b.left

abbrev pub tops : Grown → Grown
tops t = tops_of t.whole.height t.whole.root t.free

abbrev pub down : Side → Grown → Grown
down s t = down_of s t.whole.height t.whole.root t.free

abbrev pub border : Side → Grown → Grown
border s t = fix_border s t.whole t.free

-- a node of n pairs with h levels below it has a pair, if it is no leaf
abbrev pub Some : ℕ → ℕ → Type 0
Some zero n = Unit {0}
Some (suc h) n = 1 ≤ n

-- the words are the tree t, which has a root
pub record Rooted (w : List ℕ) (g : Rest) (t : Grown) : Type 0 where
  pub height : ℕ
  pub tree : Tree (suc height)
  pub free : List ℕ
  pub held : HoleIn w g (top {h = suc height}) tree free
  pub same : record { whole = record { height = suc height; root = tree }; free = free } ≡ t

-- and that is a leaf or has a pair
pub record Topped (w : List ℕ) (g : Rest) (t : Grown) : Type 0 where
  pub rooted : Rooted w g t
  pub some : Some rooted.height (length rooted.tree.rest)

-- the repair is going to t: it has come to the node `node`, with h levels below it
pub record Descending (s : Side) (w : List ℕ) (g : Rest) (node h : ℕ) (t : Grown) : Type 0 where
  pub way : Ctx (suc h)
  pub tree : Tree (suc h)
  pub free : List ℕ
  pub held : HoleIn w g way tree free
  pub node_is : tree.no ≡ node
  pub some : Some h (length tree.rest)
  pub same : fix_down s h way tree free ≡ t

-- there are such
pub record RootedIn (w : List ℕ) : Type 0 where
  pub rest : Rest
  pub end : Grown
  pub rooted : Rooted w rest end

pub record ToppedIn (w : List ℕ) : Type 0 where
  pub rest : Rest
  pub end : Grown
  pub topped : Topped w rest end

pub record DescendsIn (s : Side) (w : List ℕ) (node : ℕ) : Type 0 where
  pub height : ℕ
  pub rest : Rest
  pub end : Grown
  pub coming : Descending s w rest node (suc height) end

-- ---- what the repair is for: a state that is sound but for its sizes, where the only short nodes lie on the border

pub record Bordering (s : Side) (st : State) : Type 0 where
  pub some : 1 ≤ st.size
  pub few : st.size ≤ largest_count
  pub once : (m : ℕ) → has_whole m st.whole + times m st.free ≡ cond (ltb m st.size) 1 0
  pub chain_rises : Rises st.free
  pub tall : 1 ≤ st.whole.height
  pub bordered : Bordered s st.whole.height st.whole.root
  pub rising : Rising (list st)
  pub covered : All (λ (p : Pair). Covers st.mark p.key) (list st)

-- the state that it leaves
abbrev pub mended : Side → State → State
mended s st = record { size = st.size; whole = (fix_border s st.whole st.free).whole; free = (fix_border s st.whole st.free).free; mark = st.mark }

-- there is such a state, and the words are its
pub record ShortOn (s : Side) (w : List ℕ) : Type 0 where
  pub state : State
  pub short : Bordering s state
  pub words : w ≡ words_of state

-- the words w of such a state become w', those of the state repaired, which is sound and has the same pairs
abbrev pub Repairs : Side → List ℕ → List ℕ → Type 0
Repairs s w w' = (st : State) → Bordering s st → w ≡ words_of st → Holds w' (mended s st) × (list (mended s st) ≡ list st)
