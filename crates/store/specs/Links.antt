-- Changes of the list of nodes and of the header: a node taken, a node returned, children linked to their parent.
-- Assumes nothing.
use Rattle.std.specs.Prelude.{Option, Some, None, true, false, eqb, ℕ, suc, ◌≤◌, ◌<◌, ◌≡◌, cond, List, [], ◌∷◌, ltb, length, set, drop}
use Rattle.model.specs.Lists.{All, Rises, times}
use Rattle.model.specs.Tree.{Pair}
use Rattle.model.specs.Layout.{none, largest_count, header, first_free_word, free_word, NodeVal, nth}
use Rattle.model.specs.Nodes.{taken, untaken, returned}
use Rattle.model.specs.Words.{free_val, first_or, chain_blocks}
use Rattle.node.specs.declared.NodeNo.{NodeNo}
use Rattle.model.specs.Words.{Written}

-- ---- a node's body and its link: what it holds, and where it hangs

pub record Body : Type 0 where
  pub state : ℕ
  pub pairs : List Pair
  pub edges : List ℕ

pub record Link : Type 0 where
  pub parent : ℕ
  pub place : ℕ

abbrev pub body_of : NodeVal → Body
body_of v = record { state = v.state; pairs = v.pairs; edges = v.edges }

abbrev pub link_of : NodeVal → Link
link_of v = record { parent = v.parent; place = v.place }

-- another body of the same state
abbrev pub with_body : NodeVal → List Pair → List ℕ → NodeVal
with_body v ps es = record { state = v.state; parent = v.parent; place = v.place; pairs = ps; edges = es; total = v.total }

abbrev pub with_edges : NodeVal → List ℕ → NodeVal
with_edges v es = with_body v v.pairs es

-- ---- the free chain

abbrev pub first_free : List ℕ → ℕ
first_free h = header h first_free_word

abbrev pub free_nodes : List ℕ → ℕ
free_nodes h = header h free_word

-- the header with another first free node and another count of them
abbrev pub with_free : List ℕ → ℕ → ℕ → List ℕ
with_free h first n = set (set h first_free_word first) free_word n

-- an empty node that no edge leads to
abbrev pub fresh : ℕ → NodeVal
fresh st = record { state = st; parent = none; place = 0; pairs = []; edges = []; total = 0 }

-- the free nodes, as a list: a rising chain, of which the header says the first and how many; no other node has their state
pub record Frees (h : List ℕ) (ns : List NodeVal) (free : List ℕ) : Type 0 where
  pub few : length ns ≤ largest_count
  pub first : first_free h ≡ first_or free
  pub many : free_nodes h ≡ length free
  pub chain : All (Written ns) (chain_blocks free)
  pub inside : All (λ (x : ℕ). x < length ns) free
  pub rises : Rises free
  pub only : (q : ℕ) → q < length ns → (nth ns q).state ≡ 0 → 1 ≤ times q free

-- the first of them taken, to be a node of state st
abbrev pub take_head : List ℕ → List ℕ → List ℕ
take_head h free = with_free h (first_or (untaken free)) (length (untaken free))

abbrev pub take_node : List NodeVal → List ℕ → ℕ → List NodeVal
take_node ns free st = set ns (taken free) (fresh st)

-- there is one
pub record TakeReady (h : List ℕ) (ns : List NodeVal) (free : List ℕ) : Type 0 where
  pub some : 1 ≤ length free
  pub frees : Frees h ns free

abbrev pub Takeable : List ℕ → List NodeVal → Type 0
Takeable h ns = (free : List ℕ) × TakeReady h ns free

-- the node that a word names, if it names one
abbrev pub node_if : ℕ → Option NodeNo
node_if p =
    elim (eqb p none) [
      | true ↦ None
      | false ↦ Some (record { 0 = p })
    ]

-- the last of a rising list below n, p if none is; and the first that is not, or NONE
abbrev pub last_below : ℕ → ℕ → List ℕ → ℕ
last_below n p [] = p
last_below n p (x ∷ free) = cond (ltb x n) (last_below n x free) p

abbrev pub first_from : ℕ → List ℕ → ℕ
first_from n [] = none
first_from n (x ∷ free) = cond (ltb x n) (first_from n free) x

-- the node n returned to its place in the chain: it becomes the first, or comes behind the last one below it
abbrev pub return_head : List ℕ → List ℕ → ℕ → List ℕ
return_head h free n = with_free h (first_or (returned n free)) (length (returned n free))

abbrev pub behind : List NodeVal → ℕ → ℕ → List ℕ → List NodeVal
behind ns n p free = set (set ns n (free_val (first_from n free))) (last_below n p free) (free_val n)

unfoldable pub return_node : List NodeVal → List ℕ → ℕ → List NodeVal
return_node ns [] n = set ns n (free_val none)
return_node ns (x ∷ free) n = cond (ltb x n) (behind ns n x free) (set ns n (free_val x))

-- n is empty and not free, and not all nodes are free
pub record ReturnReady (h : List ℕ) (ns : List NodeVal) (free : List ℕ) (n : ℕ) : Type 0 where
  pub node : n < length ns
  pub no_pairs : (nth ns n).pairs ≡ []
  pub no_edges : (nth ns n).edges ≡ []
  pub out : times n free ≡ 0
  pub used : length free < length ns
  pub frees : Frees h ns free

-- for some list
abbrev pub Returnable : List ℕ → List NodeVal → ℕ → Type 0
Returnable h ns n = (free : List ℕ) × ReturnReady h ns free n

-- ---- links

abbrev pub linked : NodeVal → ℕ → ℕ → NodeVal
linked v p k = record { state = v.state; parent = p; place = k; pairs = v.pairs; edges = v.edges; total = v.total }

abbrev pub link : List NodeVal → ℕ → ℕ → ℕ → List NodeVal
link ns c p k = set ns c (linked (nth ns c) p k)

-- the children cs of node p, from place k on, linked to it
abbrev pub relink : List NodeVal → ℕ → ℕ → List ℕ → List NodeVal
relink ns p k [] = ns
relink ns p k (c ∷ cs) = relink (link ns c p k) p (suc k) cs

-- all children of node n from place k on
abbrev pub relink_from : List NodeVal → ℕ → ℕ → List NodeVal
relink_from ns n k = relink ns n k (drop k (nth ns n).edges)

-- node n has m edges, and each leads to a node
pub record LinkReady (ns : List NodeVal) (n m : ℕ) : Type 0 where
  pub node : n < length ns
  pub count : m ≡ length (nth ns n).edges
  pub lead : All (λ (c : ℕ). c < length ns) (nth ns n).edges
