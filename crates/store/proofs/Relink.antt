-- Links from children to their parent: what they leave alone, and a turn of the loop that writes them.
-- Assumes nothing.
use Prim.Native.Nat.{ℕ, suc, ◌+◌, ◌-◌, ◌≤◌, ◌<◌}
use mathlib.Core.Path.{◌≡◌, refl, ap, ◌∙◌}
use mathlib.Core.List.{List, [], ◌∷◌, ◌++◌}
use native.Mathlib.Nat.{add-zero, add-suc, suc-add}
use native.Mathlib.Decide.{ℕ_discrete, dec_lt}
use native.Mathlib.Omega.{arith}
use lib.ListN.{length, drop, get_or, length-set, length-drop, drop_of_length-le}
use lib.Seq.{get_or-set_same, get_or-set_other, set_out, take_all}
use Rattle.model.specs.Lists.{part}
use Rattle.model.specs.Layout.{most, edges_word, word_at, NodeVal, nth, blank, Arena}
use Rattle.slices.proofs.Laws.{part_more, part_length}
use Rattle.node.specs.Reading.{Within}
use Rattle.node.proofs.Reading.{within, edge_is}
use Rattle.store.specs.Links.{Body, body_of, link, linked, relink, relink_from, LinkReady}

-- ---- bodies stay

pub link_body : (ns : List NodeVal) (c p k q : ℕ) → body_of (nth (link ns c p k) q) ≡ body_of (nth ns q)
link_body ns c p k q = go (ℕ_discrete q c) (dec_lt c (length ns))
  where
    go : Dec (q ≡ c) → Dec (c < length ns) → body_of (nth (link ns c p k) q) ≡ body_of (nth ns q)
    go (yes e) (yes h) = rw e (ap body_of (get_or-set_same ns c (linked (nth ns c) p k) blank h))
    go (yes e) (no d) = rw (set_out ns c (linked (nth ns c) p k) (omega arith)) refl
    go (no d) h = ap body_of (get_or-set_other ns c q (linked (nth ns c) p k) blank d)

pub relink_body : (ns : List NodeVal) (p k : ℕ) (cs : List ℕ) (q : ℕ) → body_of (nth (relink ns p k cs) q) ≡ body_of (nth ns q)
relink_body ns p k [] q = refl
relink_body ns p k (c ∷ cs) q = relink_body (link ns c p k) p (suc k) cs q ∙ link_body ns c p k q

pub relink_length : (ns : List NodeVal) (p k : ℕ) (cs : List ℕ) → length (relink ns p k cs) ≡ length ns
relink_length ns p k [] = refl
relink_length ns p k (c ∷ cs) = relink_length (link ns c p k) p (suc k) cs ∙ length-set ns c (linked (nth ns c) p k)

relink_edges : (ns : List NodeVal) (p k : ℕ) (cs : List ℕ) (q : ℕ) → (nth (relink ns p k cs) q).edges ≡ (nth ns q).edges
relink_edges ns p k cs q = ap (λ (b : Body). b.edges) (relink_body ns p k cs q)

module _ (ns : List NodeVal) (n k : ℕ) where
  pub from_length : length (relink_from ns n k) ≡ length ns
  from_length = relink_length ns n k (drop k (nth ns n).edges)

  pub from_body : (q : ℕ) → body_of (nth (relink_from ns n k) q) ≡ body_of (nth ns q)
  from_body q = relink_body ns n k (drop k (nth ns n).edges) q

  pub from_pairs : (q : ℕ) → (nth (relink_from ns n k) q).pairs ≡ (nth ns q).pairs
  from_pairs q = ap (λ (b : Body). b.pairs) (from_body q)

  pub from_edges : (q : ℕ) → (nth (relink_from ns n k) q).edges ≡ (nth ns q).edges
  from_edges q = ap (λ (b : Body). b.edges) (from_body q)

  -- no edges from k on
  pub from_none : length (nth ns n).edges ≤ k → relink_from ns n k ≡ ns
  from_none h = rw (drop_of_length-le (nth ns n).edges {i = k} h) refl

-- ---- the loop

-- one child more
relink_more : (ns : List NodeVal) (p k : ℕ) (cs : List ℕ) (c : ℕ) → relink ns p k (cs ++ (c ∷ [])) ≡ link (relink ns p k cs) c p (k + length cs)
relink_more ns p k [] c = rw add-zero refl
relink_more ns p k (x ∷ cs) c = relink_more (link ns x p k) p (suc k) cs c ∙ rw (suc-add, add-suc) refl

-- what is known of an arena with such a node
pub known : {w h : List ℕ} {ns : List NodeVal} {n e : ℕ} → LinkReady ns n e → Arena w h ns → Within w n × (e ≤ most + 1)
known {n = n} k a =
    let s = (a.small n k.node).edges_fit in
    let c = k.count in
    (within a n k.node, omega arith)

-- the children from f up to i are linked
abbrev pub so : List NodeVal → ℕ → ℕ → ℕ → List NodeVal
so ns n f i = relink ns n f (part (nth ns n).edges f (i - f))

pub so_length : (ns : List NodeVal) (n f i : ℕ) → length (so ns n f i) ≡ length ns
so_length ns n f i = relink_length ns n f (part (nth ns n).edges f (i - f))

module _ (ns : List NodeVal) (n f e i : ℕ) (k : LinkReady ns n e) (o : f ≤ i) (g : i < e) where
  -- the child that is read
  pub so_child : {w h : List ℕ} → Arena w h (so ns n f i) → word_at w n (edges_word + i) ≡ get_or (nth ns n).edges i 0
  so_child a =
      let u = relink_edges ns n f (part (nth ns n).edges f (i - f)) n in
      edge_is a n (rw (so_length ns n f i) k.node) i (rw u (omega (arith, k.count))) ∙ ap (λ (t : List ℕ). get_or t i 0) u

  pub so_next : link (so ns n f i) (get_or (nth ns n).edges i 0) n i ≡ so ns n f (i + 1)
  so_next =
      let m = k.count in
      let d : i + 1 - f ≡ (i - f) + 1 = omega arith in
      let c : f + (i - f) ≡ i = omega arith in
      let l = part_length (nth ns n).edges f (i - f) (omega arith) in
      rw (d, part_more (nth ns n).edges f (i - f) (omega arith), relink_more ns n f (part (nth ns n).edges f (i - f)) (get_or (nth ns n).edges (f + (i - f)) 0), l, c) refl

pub so_none : (ns : List NodeVal) (n f : ℕ) → so ns n f f ≡ ns
unfolding part
so_none ns n f =
    let e : f - f ≡ 0 = omega arith in
    rw e refl

pub so_all : (ns : List NodeVal) (n f e : ℕ) → LinkReady ns n e → so ns n f e ≡ relink_from ns n f
unfolding part
so_all ns n f e k = ap (relink ns n f) (take_all (e - f) (drop f (nth ns n).edges) (simp length-drop (omega (arith, k.count))))
