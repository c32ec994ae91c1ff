-- What it is for a tree, for a tree with a hole, and for two neighbours, to stand in the list of nodes.
-- Assumes nothing.
use Rattle.std.specs.Prelude.{ℕ, zero, suc, ◌+◌, ◌≤◌, ◌<◌, ◌≡◌, List, [], ◌∷◌, map, length}
use Rattle.model.specs.Lists.{All, Rises, one, times}
use Rattle.model.specs.Layout.{none, largest_count, NodeVal, nth}
use Rattle.model.specs.Tree.{Item, Node, Tree, Ctx, top, under, Whole, fill, Twin, has_in, has, has_ctx}
use Rattle.model.specs.Words.{kind, root_no, chain_blocks}
use Rattle.model.specs.Sound.{AllIn}
use Rattle.model.specs.Words.{Written}
use Rattle.store.specs.Links.{Body, Link, body_of, link_of}
use Rattle.standing.specs.Kept.{Links}

-- items with numbers for trees
abbrev pub numbered : (h : ℕ) → List (Item (Tree h)) → List (Item ℕ)
numbered h = map (λ (x : Item (Tree h)). record { pair = x.pair; edge = root_no h x.edge })

-- a leaf has no edges
abbrev pub edges_in : ℕ → List ℕ → List ℕ
edges_in zero es = []
edges_in (suc h) es = es

-- the body of a node with h levels below it
abbrev pub content : ℕ → ℕ → List (Item ℕ) → Body
content h e r = record { state = kind h; pairs = map (λ (x : Item ℕ). x.pair) r; edges = edges_in h (e ∷ map (λ (x : Item ℕ). x.edge) r) }

abbrev pub content_of : ℕ → Node ℕ → Body
content_of h t = content h t.first t.rest

-- a tree stands in the nodes: the body of each of its nodes does. (The links are those that the edges say, for every node)
abbrev pub Stands : List NodeVal → (h : ℕ) → Tree h → Type 0
Stands ns zero t = Unit {0}
Stands ns (suc h) t = (body_of (nth ns t.no) ≡ content h (root_no h t.first) (numbered h t.rest)) × Stands ns h t.first × AllIn (Stands ns h) t.rest

-- the way up from a hole that is filled by the node k
abbrev pub Way : {h : ℕ} → List NodeVal → Ctx h → ℕ → Type 0
Way ns top k = Unit {0}
Way ns (under {h = h} f c) k =
    (body_of (nth ns f.no) ≡ content_of h (fill f.no (numbered h f.left) k (numbered h f.right))) × AllIn (Stands ns h) f.left × AllIn (Stands ns h) f.right × Way ns c f.no

abbrev pub root_of : {h : ℕ} → Ctx h → ℕ → ℕ
root_of top k = k
root_of (under f c) k = root_of c f.no

abbrev pub at_root : Link
at_root = record { parent = none; place = 0 }

-- how often a number is that of a node of the way, of the trees at the hole, or a free one
abbrev pub counts : ℕ → {h : ℕ} → Ctx h → ℕ → List ℕ → ℕ
counts m c k free = has_ctx m c + k + times m free

-- the nodes of a tree, seen from a hole that t fills; and the free nodes
pub record Hole (ns : List NodeVal) {h : ℕ} (c : Ctx h) (t : Tree h) (free : List ℕ) : Type 0 where
  pub few : length ns ≤ largest_count
  pub way : Way ns c (root_no h t)
  pub tree : Stands ns h t
  pub chain : All (Written ns) (chain_blocks free)
  pub rises : Rises free
  pub links : Links ns
  pub root : link_of (nth ns (root_of c (root_no h t))) ≡ at_root
  pub once : (m : ℕ) → counts m c (has m h t) free ≤ 1
  pub within : (m : ℕ) → 1 ≤ counts m c (has m h t) free → m < length ns
  pub all : (m : ℕ) → m < length ns → 1 ≤ counts m c (has m h t) free

-- the same, seen from two neighbours, which stand left and right of a pair of the node n
pub record Beside (ns : List NodeVal) {h : ℕ} (c : Ctx (suc (suc h))) (n : ℕ) (l : List (Item (Tree (suc h)))) (w : Twin (Tree (suc h))) (r : List (Item (Tree (suc h)))) (free : List ℕ) : Type 0 where
  pub few : length ns ≤ largest_count
  pub way : Way ns c n
  pub body : body_of (nth ns n) ≡ content_of (suc h) (fill n (numbered (suc h) l) w.left.no (record { pair = w.pair; edge = w.right.no } ∷ numbered (suc h) r))
  pub lefts : AllIn (Stands ns (suc h)) l
  pub low : Stands ns (suc h) w.left
  pub high : Stands ns (suc h) w.right
  pub rights : AllIn (Stands ns (suc h)) r
  pub chain : All (Written ns) (chain_blocks free)
  pub rises : Rises free
  pub links : Links ns
  pub root : link_of (nth ns (root_of c n)) ≡ at_root
  pub once : (m : ℕ) → counts m c (one n m + (has_in (has m (suc h)) l + (has m (suc h) w.left + (has m (suc h) w.right + has_in (has m (suc h)) r)))) free ≤ 1
  pub within : (m : ℕ) → 1 ≤ counts m c (one n m + (has_in (has m (suc h)) l + (has m (suc h) w.left + (has m (suc h) w.right + has_in (has m (suc h)) r)))) free → m < length ns
  pub all : (m : ℕ) → m < length ns → 1 ≤ counts m c (one n m + (has_in (has m (suc h)) l + (has m (suc h) w.left + (has m (suc h) w.right + has_in (has m (suc h)) r)))) free

-- no edge leads to a tree
abbrev pub Loose : List NodeVal → (h : ℕ) → Tree h → Type 0
Loose ns zero t = Unit {0}
Loose ns (suc h) t = (nth ns t.no).parent ≡ none

-- a hole that x fills, and beside it the tree y of height j, which no edge leads to yet
pub record Aside (ns : List NodeVal) {h : ℕ} (c : Ctx h) (x : Tree h) (j : ℕ) (y : Tree j) (free : List ℕ) : Type 0 where
  pub few : length ns ≤ largest_count
  pub way : Way ns c (root_no h x)
  pub low : Stands ns h x
  pub high : Stands ns j y
  pub loose : Loose ns j y
  pub chain : All (Written ns) (chain_blocks free)
  pub rises : Rises free
  pub links : Links ns
  pub root : link_of (nth ns (root_of c (root_no h x))) ≡ at_root
  pub once : (m : ℕ) → counts m c (has m h x + has m j y) free ≤ 1
  pub within : (m : ℕ) → 1 ≤ counts m c (has m h x + has m j y) free → m < length ns
  pub all : (m : ℕ) → m < length ns → 1 ≤ counts m c (has m h x + has m j y) free

-- of the hole's height
abbrev pub Open : List NodeVal → {h : ℕ} → Ctx h → Tree h → Tree h → List ℕ → Type 0
Open ns {h} c x y free = Aside ns c x h y free

-- the nodes of a whole tree, and the free nodes
abbrev pub Closed : List NodeVal → Whole → List ℕ → Type 0
Closed ns w free = Hole ns {h = w.height} top w.root free
