-- Counts in the steps of an insertion: no step writes one but a fresh node's, so only those of the changed nodes may be wrong.
-- Assumes nothing.
use Prim.Native.Nat.{ℕ, zero, suc, ◌+◌}
use mathlib.Core.Path.{◌≡◌, refl, sym, ap, ◌∙◌}
use mathlib.Core.List.{List, [], ◌∷◌}
use lib.ListN.{length, set, take, drop}
use Rattle.model.specs.Lists.{times, insert_at}
use Rattle.model.specs.Tree.{Pair}
use Rattle.model.specs.Nodes.{taken}
use Rattle.model.specs.Layout.{internal, NodeVal, nth}
use Rattle.store.specs.Links.{Body, with_body, with_edges, fresh, linked}
use Rattle.leaf.specs.Pairs.{with_pairs}
use Rattle.leaf.specs.Split.{cut_bodies, split_nodes}
use Rattle.internal.specs.Inner.{fit_bodies, fit_nodes, crown_nodes, push_nodes, root_of}
use Rattle.standing.specs.Kept.{Kept}
use Rattle.standing.specs.Totals.{totals, TotalsBut}
use Rattle.totals.proofs.Siblings.{Same, same_totals, set_same, relink_same}
use Rattle.growing.specs.Steps.{fit_at}

pub fit_total : (h : ℕ) (ns : List NodeVal) (n i : ℕ) (p : Pair) (y : ℕ) → Same ns (fit_at h ns n i p y)
unfolding fit_nodes
fit_total zero ns n i p y q = set_same ns n (with_pairs (nth ns n) (insert_at (nth ns n).pairs i p)) refl q
fit_total (suc h) ns n i p y q =
    relink_same (fit_bodies ns n i p y) n (i + 1) (drop (i + 1) (nth (fit_bodies ns n i p y) n).edges) q ∙ set_same ns n (with_body (nth ns n) (insert_at (nth ns n).pairs i p) (insert_at (nth ns n).edges (i + 1) y)) refl q

pub split_total : (ns : List NodeVal) (n m i : ℕ) → (nth ns m).total ≡ 0 → Same ns (split_nodes ns n m i)
unfolding split_nodes
split_total ns n m i z q =
    let v = with_body (nth ns n) (take i (nth ns n).pairs) (take (i + 1) (nth ns n).edges) in
    let u = with_body (fresh (nth ns n).state) (drop (i + 1) (nth ns n).pairs) (drop (i + 1) (nth ns n).edges) in
    relink_same (cut_bodies ns n m i) m 0 (drop 0 (nth (cut_bodies ns n m i) m).edges) q ∙ set_same (set ns n v) m u (sym (set_same ns n v refl m ∙ z)) q ∙ set_same ns n v refl q

pub push_total : (h free : List ℕ) (ns : List NodeVal) → (nth ns (taken free)).total ≡ 0 → Same ns (push_nodes h free ns)
unfolding crown_nodes
push_total h free ns z q =
    let v = with_edges (fresh internal) (root_of h ∷ []) in
    set_same (set ns (taken free) v) (root_of h) (linked (nth (set ns (taken free) v) (root_of h)) (taken free) 0) refl q ∙ set_same ns (taken free) v (sym z) q

pub changed : (ns ns' : List NodeVal) (us xs ys : List ℕ) → Kept ns ns' xs ys → Same ns ns' → ((q : ℕ) → times q xs ≡ 0 → times q us ≡ 0) → TotalsBut us ns → TotalsBut xs ns'
changed ns ns' us xs ys K s f T q u =
    s q ∙ T q (f q u)
    ∙ sym (ap (λ (b : Body). length b.pairs + totals ns' b.edges) (K.bodies q u) ∙ ap (λ (k : ℕ). length (nth ns q).pairs + k) (same_totals ns ns' s (nth ns q).edges))
