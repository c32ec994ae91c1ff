-- Links written: which are right then.
-- Assumes nothing.
use mathlib.Core.Path.{◌≡◌, refl, sym, ap, ◌∙◌}
use mathlib.Core.Logic.{◌⊎◌, inl, inr, ⊎_elim}
use mathlib.Core.List.{List, [], ◌∷◌}
use Prim.Native.Nat.{ℕ, zero, suc, ◌+◌, ◌-◌, ◌≤◌, ◌<◌}
use native.Mathlib.Nat.{add-zero, add-suc, suc-add, not-suc-le-zero}
use native.Mathlib.Decide.{ℕ_discrete, dec_lt}
use native.Mathlib.Omega.{arith}
use lib.ListN.{length, drop, get_or, length-set, length-drop}
use lib.Seq.{get_or-set_same, get_or-set_other, set_out, get_or-drop}
use Rattle.model.specs.Lists.{times}
use Rattle.model.specs.Layout.{NodeVal, nth, blank}
use Rattle.model.proofs.Lists.{one_same}
use Rattle.store.specs.Links.{Body, link_of, link, linked, relink, relink_from}
use Rattle.store.proofs.Relink.{relink_length, relink_body}
use Rattle.standing.specs.Kept.{Child, Links, leads, Edged, Tail, In, LinksBut}
use Rattle.standing.proofs.Leads.{one_self, times_parts, times_at, times_low, leads_node, leads_two, leads_set}

pub relink_other : (ns : List NodeVal) (p k : ℕ) (cs : List ℕ) (q : ℕ) → times q cs ≡ 0 → nth (relink ns p k cs) q ≡ nth ns q
relink_other ns p k [] q h = refl
relink_other ns p k (c ∷ cs) q h = relink_other (link ns c p k) p (suc k) cs q (omega arith) ∙ get_or-set_other ns c q (linked (nth ns c) p k) blank (λ e. omega (arith, one_same c q (sym e)))

pub relink_at : (ns : List NodeVal) (p k : ℕ) (cs : List ℕ) (j : ℕ) → times (get_or cs j 0) cs ≤ 1 → j < length cs → get_or cs j 0 < length ns → link_of (nth (relink ns p k cs) (get_or cs j 0)) ≡ record { parent = p; place = k + j }
relink_at ns p k [] j a h o = absurd (not-suc-le-zero h)
relink_at ns p k (c ∷ cs) zero a h o =
    ap link_of (relink_other (link ns c p k) p (suc k) cs c (omega (arith, one_self c)) ∙ get_or-set_same ns c (linked (nth ns c) p k) blank o)
    ∙ rw add-zero refl
relink_at ns p k (c ∷ cs) (suc j) a h o =
    relink_at (link ns c p k) p (suc k) cs j (omega arith) (omega arith) (rw length-set o)
    ∙ rw (suc-add, add-suc) refl

pub body_edges : {v u : Body} → v ≡ u → v.edges ≡ u.edges
body_edges e = ap (λ (b : Body). b.edges) e

pub body_state : {v u : Body} → v ≡ u → v.state ≡ u.state
body_state e = ap (λ (b : Body). b.state) e

link_leads : (c : ℕ) (ns : List NodeVal) (x p k : ℕ) → leads c (link ns x p k) ≡ leads c ns
link_leads c ns x p k = go (dec_lt x (length ns))
  where
    go : Dec (x < length ns) → leads c (link ns x p k) ≡ leads c ns
    go (yes h) = omega (arith, leads_set c ns x (linked (nth ns x) p k) h)
    go (no d) = rw (set_out ns x (linked (nth ns x) p k) (omega arith)) refl

pub relink_leads : (c : ℕ) (ns : List NodeVal) (p k : ℕ) (cs : List ℕ) → leads c (relink ns p k cs) ≡ leads c ns
relink_leads c ns p k [] = refl
relink_leads c ns p k (x ∷ cs) = relink_leads c (link ns x p k) p (suc k) cs ∙ link_leads c ns x p k

-- the edges of n from k on are linked: they were not to be counted on, and are right now
module _ (ns : List NodeVal) (E : Edged ns) (n k : ℕ) where
  es : List ℕ
  es = (nth ns n).edges

  to : List NodeVal
  to = relink ns n k (drop k es)

  pub relink_edged : Edged (relink_from ns n k)
  relink_edged = record {
    once = λ c. rw (relink_leads c ns n k (drop k (nth ns n).edges)) (E.once c);
    within = λ c h. rw (relink_length ns n k (drop k (nth ns n).edges)) (E.within c (rw (relink_leads c ns n k (drop k (nth ns n).edges)) at h));
    live = λ c h. rw (body_state (relink_body ns n k (drop k (nth ns n).edges) c)) (E.live c (rw (relink_leads c ns n k (drop k (nth ns n).edges)) at h));
  }

  child : (q j : ℕ) → j < length (nth ns q).edges → link_of (nth to (get_or (nth ns q).edges j 0)) ≡ record { parent = q; place = j } → Child to q j (get_or (nth to q).edges j 0)
  unfolding to es
  child q j h l =
      let i : 1 ≤ leads (get_or (nth ns q).edges j 0) ns = omega (arith, times_at (nth ns q).edges j h, leads_node (get_or (nth ns q).edges j 0) ns q) in
      let e = body_edges (relink_body ns n k (drop k (nth ns n).edges) q) in
      rw e (record {
        within = rw relink_length (E.within _ i);
        live = rw (body_state (relink_body ns n k (drop k (nth ns n).edges) (get_or (nth ns q).edges j 0))) (E.live _ i);
        link = l;
      })

  keeps : (q j : ℕ) → j < length (nth ns q).edges → times (get_or (nth ns q).edges j 0) (drop k es) ≡ 0 → Child ns q j (get_or (nth ns q).edges j 0) → Child to q j (get_or (nth to q).edges j 0)
  unfolding to es
  keeps q j h z r = child q j h (ap link_of (relink_other ns n k (drop k (nth ns n).edges) (get_or (nth ns q).edges j 0) z) ∙ r.link)

  makes : (j : ℕ) → k ≤ j → j < length es → Child to n j (get_or (nth to n).edges j 0)
  unfolding to es
  makes j o h =
      let a : k + (j - k) ≡ j = omega arith in
      let b : get_or (drop k (nth ns n).edges) (j - k) 0 ≡ get_or (nth ns n).edges j 0 = get_or-drop k (nth ns n).edges (j - k) 0 ∙ rw a refl in
      let m : times (get_or (drop k (nth ns n).edges) (j - k) 0) (drop k (nth ns n).edges) ≤ 1 = omega (arith, times_parts (get_or (drop k (nth ns n).edges) (j - k) 0) k (nth ns n).edges, leads_node (get_or (drop k (nth ns n).edges) (j - k) 0) ns n, E.once (get_or (drop k (nth ns n).edges) (j - k) 0)) in
      let i : 1 ≤ leads (get_or (nth ns n).edges j 0) ns = omega (arith, times_at (nth ns n).edges j h, leads_node (get_or (nth ns n).edges j 0) ns n) in
      let r = relink_at ns n k (drop k (nth ns n).edges) (j - k) m (omega (arith, length-drop k (nth ns n).edges)) (rw b (E.within _ i)) in
      child n j h (rw (b, a) at r)

  pub relinked : (xs : List Tail) → LinksBut (record { no = n; from = k } ∷ xs) ns → LinksBut xs (relink_from ns n k)
  unfolding to es
  relinked xs B q j h = go (B q j g) (ℕ_discrete q n) (dec_lt j k)
    where
      e : (nth (relink_from ns n k) q).edges ≡ (nth ns q).edges
      e = body_edges (relink_body ns n k (drop k (nth ns n).edges) q)

      g : j < length (nth ns q).edges
      g = rw e at h

      made : q ≡ n → k ≤ j → In xs q j ⊎ Child (relink_from ns n k) q j (get_or (nth (relink_from ns n k) q).edges j 0)
      made z o = inr (rw z (makes j o (rw z at g)))

      go : In (record { no = n; from = k } ∷ xs) q j ⊎ Child ns q j (get_or (nth ns q).edges j 0) → Dec (q ≡ n) → Dec (j < k) → In xs q j ⊎ Child (relink_from ns n k) q j (get_or (nth (relink_from ns n k) q).edges j 0)
      go (inl (inl x)) a b = made x.0 x.1
      go (inl (inr x)) a b = inl x
      go (inr r) (yes z) (no d) = made z (omega arith)
      go (inr r) (yes z) (yes l) =
          let y : (nth ns q).edges ≡ (nth ns n).edges = ap (λ (t : ℕ). (nth ns t).edges) z in
          inr (keeps q j g (omega (arith, times_low (nth ns q).edges j k l g, times_parts (get_or (nth ns q).edges j 0) k (nth ns q).edges, leads_node (get_or (nth ns q).edges j 0) ns q, E.once (get_or (nth ns q).edges j 0), ap (λ (t : List ℕ). times (get_or (nth ns q).edges j 0) (drop k t)) y)) r)
      go (inr r) (no d) b =
          inr (keeps q j g (omega (arith, times_at (nth ns q).edges j g, times_parts (get_or (nth ns q).edges j 0) k (nth ns n).edges, leads_two (get_or (nth ns q).edges j 0) ns q n d, E.once (get_or (nth ns q).edges j 0))) r)

pub links_all : (ns : List NodeVal) → LinksBut [] ns → Links ns
links_all ns B q j h = ⊎_elim (λ x. absurd x) (λ x. x) (B q j h)

pub links_but : (ns : List NodeVal) (xs : List Tail) → Links ns → LinksBut xs ns
links_but ns xs L q j h = inr (L q j h)
