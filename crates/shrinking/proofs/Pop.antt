-- The top level taken off: links, and what is kept.
-- Assumes nothing.
use mathlib.Core.Path.{◌≡◌, refl, sym, ap, ◌∙◌}
use mathlib.Core.Logic.{◌≢◌}
use mathlib.Core.List.{List, [], ◌∷◌}
use Prim.Native.Nat.{ℕ, ◌+◌, ◌≤◌, ◌<◌}
use native.Mathlib.Nat.{not-suc-le-zero}
use native.Mathlib.Decide.{ℕ_discrete}
use native.Mathlib.Omega.{arith}
use lib.ListN.{length, get_or, set, length-set}
use lib.Seq.{get_or-set_same, get_or-set_other}
use Rattle.model.specs.Lists.{All, one, times}
use Rattle.model.specs.Layout.{none, largest_count, NodeVal, nth, blank}
use Rattle.model.specs.Nodes.{returned}
use Rattle.model.specs.Words.{chain_blocks}
use Rattle.model.proofs.Held.{Written}
use Rattle.model.proofs.Lists.{one_same, one_other}
use Rattle.store.specs.Links.{body_of, link_of, link, linked, with_body, Frees, return_node}
use Rattle.store.proofs.Relink.{relink_body}
use Rattle.store.proofs.Returns.{return_chain}
use Rattle.internal.specs.Inner.{root_of, only_child, popped, pop_nodes}
use Rattle.standing.specs.Kept.{Child, Links, leads, Kept}
use Rattle.standing.proofs.Leads.{one_self, times_at, leads_node, leads_set, links_edged, link_parent}
use Rattle.standing.proofs.Relinks.{body_edges, body_state, relink_leads}
use Rattle.standing.proofs.Changes.{root_unled, kept_trans, kept_more}
use Rattle.standing.proofs.Freed.{frees_kept, return_kept}

-- a node that no edge leads to gets another link
module _ (ns : List NodeVal) (L : Links ns) (r p k : ℕ) (o : r < length ns) (live : 1 ≤ (nth ns r).state) (unled : leads r ns ≡ 0) where
  other : (q : ℕ) → q ≢ r → nth (link ns r p k) q ≡ nth ns q
  other q d = get_or-set_other ns r q (linked (nth ns r) p k) blank d

  link_kept : Kept ns (link ns r p k) [] (r ∷ [])
  link_kept = record {
    long = length-set ns r (linked (nth ns r) p k);
    bodies = λ q z. relink_body ns p k (r ∷ []) q;
    frees = λ q z s. other q (λ e. let u : (nth ns r).state ≡ 0 = rw (sym e) s in omega arith);
    roots = λ q z s. ap link_of (other q (λ e. omega (arith, one_same r q (sym e))));
    links = λ q j h.
        let e = body_edges (relink_body ns p k (r ∷ []) q) in
        let g : j < length (nth ns q).edges = rw e at h in
        let c = L q j g in
        let s = other (get_or (nth ns q).edges j 0) (λ z. omega (arith, times_at (nth ns q).edges j g, leads_node (get_or (nth ns q).edges j 0) ns q, ap (λ (t : ℕ). leads t ns) z)) in
        rw e (record { within = rw length-set c.within; live = rw s c.live; link = ap link_of s ∙ c.link });
  }

-- a node loses its edges
module _ (ns : List NodeVal) (L : Links ns) (m : ℕ) (o : m < length ns) where
  abbrev bare : NodeVal
  bare = with_body (nth ns m) (nth ns m).pairs []

  bare_at : nth (set ns m bare) m ≡ bare
  bare_at = get_or-set_same ns m bare blank o

  bare_other : (q : ℕ) → q ≢ m → nth (set ns m bare) q ≡ nth ns q
  bare_other q d = get_or-set_other ns m q bare blank d

  same_link : (q : ℕ) → Dec (q ≡ m) → link_of (nth (set ns m bare) q) ≡ link_of (nth ns q)
  same_link q (yes e) = rw e (ap link_of bare_at)
  same_link q (no d) = ap link_of (bare_other q d)

  same_state : (q : ℕ) → Dec (q ≡ m) → (nth (set ns m bare) q).state ≡ (nth ns q).state
  same_state q (yes e) = rw e (ap (λ (v : NodeVal). v.state) bare_at)
  same_state q (no d) = ap (λ (v : NodeVal). v.state) (bare_other q d)

  bare_links : Links (set ns m bare)
  bare_links q j h = go (ℕ_discrete q m)
    where
      go : Dec (q ≡ m) → Child (set ns m bare) q j (get_or (nth (set ns m bare) q).edges j 0)
      go (yes e) = absurd (not-suc-le-zero (rw (e, bare_at) at h))
      go (no d) =
          let w = bare_other q d in
          let g : j < length (nth ns q).edges = rw w at h in
          let c = L q j g in
          let x = get_or (nth ns q).edges j 0 in
          rw w (record { within = rw length-set c.within; live = rw (same_state x (ℕ_discrete x m)) c.live; link = same_link x (ℕ_discrete x m) ∙ c.link })

  bare_kept : Kept ns (set ns m bare) (m ∷ []) []
  bare_kept = record {
    long = length-set ns m bare;
    bodies = λ q z. ap body_of (bare_other q (λ e. omega (arith, one_same m q (sym e))));
    frees = λ q z s. bare_other q (λ e. omega (arith, one_same m q (sym e)));
    roots = λ q z s. same_link q (ℕ_discrete q m);
    links = bare_links;
  }

  bare_leads : (c : ℕ) → leads c (set ns m bare) + times c (nth ns m).edges ≡ leads c ns
  bare_leads c = leads_set c ns m bare o ∙ omega arith

module _ (h : List ℕ) (ns : List NodeVal) (L : Links ns) (few : length ns ≤ largest_count) (r : ℕ) (o : root_of h < length ns) (only : (nth ns (root_of h)).edges ≡ r ∷ []) (root : (nth ns (root_of h)).parent ≡ none) where
  abbrev m : ℕ
  m = root_of h

  child : Child ns m 0 r
  child = rw only at (L m 0 (rw only (omega arith)))

  child_apart : r ≢ m
  child_apart e =
      let a : (nth ns m).parent ≡ m = ap (λ (t : ℕ). (nth ns t).parent) (sym e) ∙ link_parent child.link in
      let b : m ≡ none = sym a ∙ root in
      omega arith

  abbrev ns₁ : List NodeVal
  ns₁ = set ns m (with_body (nth ns m) (nth ns m).pairs [])

  abbrev ns₂ : List NodeVal
  ns₂ = link ns₁ r none 0

  k₁ : Kept ns ns₁ (m ∷ []) []
  k₁ = bare_kept ns L m o

  leads_r : leads r ns₁ ≡ 0
  leads_r =
      let a = bare_leads ns L m o r in
      let b : times r (nth ns m).edges ≡ one r r + 0 = ap (times r) only in
      omega (arith, (links_edged ns L).once r, one_self r)

  r_in : r < length ns₁
  r_in = rw length-set child.within

  k₂ : Kept ns₁ ns₂ [] (r ∷ [])
  k₂ = link_kept ns₁ k₁.links r none 0 r_in (rw (body_state (k₁.bodies r (omega (arith, one_other m r (λ e. child_apart (sym e)))))) child.live) leads_r

  leads_m : leads m ns₂ ≡ 0
  leads_m = omega (arith, relink_leads m ns₁ none 0 (r ∷ []), bare_leads ns L m o m, root_unled ns L few m root)

  m_in : m < length ns₂
  m_in = rw (k₂.long, k₁.long) o

  k₁₂ : Kept ns ns₂ (m ∷ []) (m ∷ r ∷ [])
  k₁₂ = kept_trans (kept_more (m ∷ []) [] (m ∷ []) (m ∷ r ∷ []) (λ q z. z) (λ q z. refl) k₁) (kept_more [] (r ∷ []) (m ∷ []) (m ∷ r ∷ []) (λ q z. refl) (λ q z. omega arith) k₂)

  states : (q : ℕ) → (nth ns₂ q).state ≡ (nth ns q).state
  states q = body_state (relink_body ns₁ none 0 (r ∷ []) q) ∙ same_state ns L m o q (ℕ_discrete q m)

  only_is : only_child h ns ≡ r
  only_is = rw only refl

  module _ (free : List ℕ) (F : Frees h ns free) (z : (q : ℕ) → times q free + times q (root_of h ∷ r ∷ []) ≤ 1) where
    F₂ : Frees h ns₂ free
    F₂ = frees_kept free (m ∷ []) (m ∷ r ∷ []) k₁₂ (λ q. omega (arith, z q)) states F

    -- the free nodes stand as they did when the root comes to them
    pub pop_frees : Frees h (popped h ns) free
    pop_frees = rw only_is F₂

    k₃ : Kept ns₂ (return_node ns₂ free m) (m ∷ free) (m ∷ free)
    k₃ = return_kept ns₂ k₂.links free F₂ m m_in leads_m

    pub pop_kept : Kept ns (pop_nodes h free ns) (root_of h ∷ free) (root_of h ∷ r ∷ free)
    unfolding pop_nodes
    pop_kept =
        rw only_is
        (kept_trans (kept_more (m ∷ []) (m ∷ r ∷ []) (m ∷ free) (m ∷ r ∷ free) (λ q z. omega arith) (λ q z. omega arith) k₁₂)
        (kept_more (m ∷ free) (m ∷ free) (m ∷ free) (m ∷ r ∷ free) (λ q z. z) (λ q z. omega arith) k₃))

    pub pop_chain : All (Written (pop_nodes h free ns)) (chain_blocks (returned (root_of h) free))
    unfolding pop_nodes
    pop_chain = rw only_is (return_chain ns₂ m m_in free F.rises (omega (arith, z m, one_self m)) F₂.chain)

    pub pop_root : link_of (nth (pop_nodes h free ns) r) ≡ record { parent = none; place = 0 }
    unfolding pop_nodes
    pop_root =
        let e : link_of (nth ns₂ r) ≡ record { parent = none; place = 0 } = ap link_of (get_or-set_same ns₁ r (linked (nth ns₁ r) none 0) blank r_in) in
        rw only_is (k₃.roots r (omega (arith, z r, one_self r)) (link_parent e) ∙ e)
