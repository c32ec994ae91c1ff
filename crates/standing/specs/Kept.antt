-- The list of nodes as bodies and links: what a change keeps.
-- Assumes nothing.
use Rattle.std.specs.Prelude.{◌≡◌, ◌⊎◌, List, [], ◌∷◌, ℕ, ◌+◌, ◌≤◌, ◌<◌, length, get_or}
use Rattle.model.specs.Lists.{times}
use Rattle.model.specs.Layout.{none, NodeVal, nth}
use Rattle.store.specs.Links.{body_of, link_of}

-- the edge i of the node q leads to c
pub record Child (ns : List NodeVal) (q i c : ℕ) : Type 0 where
  pub within : c < length ns
  pub live : 1 ≤ (nth ns c).state
  pub link : link_of (nth ns c) ≡ record { parent = q; place = i }

-- parent and edge index agree with the edge that leads to a node, for every edge of every node
abbrev pub Links : List NodeVal → Type 0
Links ns = (q i : ℕ) → i < length (nth ns q).edges → Child ns q i (get_or (nth ns q).edges i 0)

-- how many edges lead to c
abbrev pub leads : ℕ → List NodeVal → ℕ
leads c [] = 0
leads c (v ∷ ns) = times c v.edges + leads c ns

-- no two edges lead to one node, and each leads to a live one, whatever their links say
pub record Edged (ns : List NodeVal) : Type 0 where
  pub once : (c : ℕ) → leads c ns ≤ 1
  pub within : (c : ℕ) → 1 ≤ leads c ns → c < length ns
  pub live : (c : ℕ) → 1 ≤ leads c ns → 1 ≤ (nth ns c).state

-- the edges of the node `no` from the place `from` on
pub record Tail : Type 0 where
  pub no : ℕ
  pub from : ℕ

abbrev pub In : List Tail → ℕ → ℕ → Type 0
In [] q j = ⊥
In (x ∷ xs) q j = ((q ≡ x.no) × (x.from ≤ j)) ⊎ In xs q j

-- links are right but perhaps those of xs
abbrev pub LinksBut : List Tail → List NodeVal → Type 0
LinksBut xs ns = (q j : ℕ) → j < length (nth ns q).edges → In xs q j ⊎ Child ns q j (get_or (nth ns q).edges j 0)

-- bodies have changed at xs alone; links and states have not
pub record Bodied (ns ns' : List NodeVal) (xs : List ℕ) : Type 0 where
  pub long : length ns' ≡ length ns
  pub linking : (q : ℕ) → link_of (nth ns' q) ≡ link_of (nth ns q)
  pub states : (q : ℕ) → (nth ns' q).state ≡ (nth ns q).state
  pub others : (q : ℕ) → times q xs ≡ 0 → nth ns' q ≡ nth ns q

-- of the bodies, only those of xs have changed; of the nodes that no edge led to, only those of ys have another link
pub record Kept (ns ns' : List NodeVal) (xs ys : List ℕ) : Type 0 where
  pub long : length ns' ≡ length ns
  pub bodies : (q : ℕ) → times q xs ≡ 0 → body_of (nth ns' q) ≡ body_of (nth ns q)
  pub frees : (q : ℕ) → times q xs ≡ 0 → (nth ns q).state ≡ 0 → nth ns' q ≡ nth ns q
  pub roots : (q : ℕ) → times q ys ≡ 0 → (nth ns q).parent ≡ none → link_of (nth ns' q) ≡ link_of (nth ns q)
  pub links : Links ns'
