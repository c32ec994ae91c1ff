-- Counts: true ones are those of the tree; a change of bodies leaves wrong those of the changed alone; one set right leaves its parent's.
-- Assumes nothing.
use Prim.Native.Nat.{ℕ, zero, suc, ◌+◌, ◌≤◌, ◌<◌}
use native.Mathlib.Nat.{not-suc-le-zero}
use native.Mathlib.Decide.{ℕ_discrete, dec_lt}
use native.Mathlib.Omega.{arith}
use mathlib.Core.Path.{◌≡◌, refl, sym, ap, ap₂, ◌∙◌, subst}
use mathlib.Core.List.{List, [], ◌∷◌, map}
use lib.ListN.{length, get_or, length-append, get_or-eq_default}
use lib.Seq.{get_or-set_same, get_or-set_other, set_out}
use Rattle.model.specs.Lists.{times}
use Rattle.model.specs.Layout.{none, NodeVal, nth, blank}
use Rattle.model.specs.Tree.{Item, Tree, flat, flats}
use Rattle.model.specs.Words.{free_val}
use Rattle.model.specs.Sound.{AllIn}
use Rattle.model.proofs.Lists.{one_same, one_other}
use Rattle.store.specs.Links.{Body, Link, body_of}
use Rattle.standing.specs.Kept.{Links}
use Rattle.standing.specs.Standing.{numbered, Stands}
use Rattle.standing.specs.Totals.{totals, due, TotalsBut, Totals, with_total, put_total, recount}

-- past the last node
pub past : (ns : List NodeVal) (q : ℕ) → length ns ≤ q → nth ns q ≡ blank
past ns q l = get_or-eq_default ns blank l

-- ---- true counts are those of the tree

module _ (ns : List NodeVal) (T : Totals ns) where
  due_of : (b : Body) (q : ℕ) → body_of (nth ns q) ≡ b → (nth ns q).total ≡ length b.pairs + totals ns b.edges
  due_of b q e = T q refl ∙ ap (λ (x : Body). length x.pairs + totals ns x.edges) e

  gaps_many : (r : List (Item (Tree 0))) → length (map (λ (x : Item ℕ). x.pair) (numbered 0 r)) ≡ length (flats (flat 0) r)
  gaps_many [] = refl
  gaps_many (x ∷ r) = ap suc (gaps_many r)

  items_many : (h : ℕ) → ((t : Tree (suc h)) → Stands ns (suc h) t → (nth ns t.no).total ≡ length (flat (suc h) t)) → (r : List (Item (Tree (suc h)))) → AllIn (Stands ns (suc h)) r
      → length (map (λ (x : Item ℕ). x.pair) (numbered (suc h) r)) + totals ns (map (λ (x : Item ℕ). x.edge) (numbered (suc h) r)) ≡ length (flats (flat (suc h)) r)
  items_many h f [] a = refl
  items_many h f (x ∷ r) a = omega (arith, f x.edge a.0, items_many h f r a.1, length-append (flat (suc h) x.edge) (flats (flat (suc h)) r))

  pub stands_total : (h : ℕ) (t : Tree (suc h)) → Stands ns (suc h) t → (nth ns t.no).total ≡ length (flat (suc h) t)
  stands_total zero t s = omega (arith, due_of _ t.no s.0, gaps_many t.rest)
  stands_total (suc h) t s =
      omega (
        arith,
        due_of _ t.no s.0,
        stands_total h t.first s.1,
        items_many h (stands_total h) t.rest s.2,
        length-append (flat (suc h) t.first) (flats (flat (suc h)) t.rest),
      )

-- ---- a change: of bodies at xs and zs alone, and of counts at zs alone, which are free afterwards. Then only the counts of xs may be wrong

pub changed_but : (ns ns' : List NodeVal) (xs zs : List ℕ) → Links ns' → ((q : ℕ) → times q xs ≡ 0 → times q zs ≡ 0 → body_of (nth ns' q) ≡ body_of (nth ns q)) → ((q : ℕ) → times q zs ≡ 0 → (nth ns' q).total ≡ (nth ns q).total)
    → ((q : ℕ) → 1 ≤ times q zs → nth ns' q ≡ free_val (nth ns' q).parent) → Totals ns → TotalsBut xs ns'
changed_but ns ns' xs zs L b t f T q u = go (dec_lt 0 (times q zs))
  where
    kept : (c : ℕ) → 1 ≤ (nth ns' c).state → Dec (0 < times c zs) → times c zs ≡ 0
    kept c l (yes h) = absurd (omega (arith, ap (λ (v : NodeVal). v.state) (f c (omega arith))))
    kept c l (no d) = omega arith

    kids : (cs : List ℕ) → ((j : ℕ) → j < length cs → 1 ≤ (nth ns' (get_or cs j 0)).state) → totals ns' cs ≡ totals ns cs
    kids [] l = refl
    kids (c ∷ cs) l = ap₂ ◌+◌ (t c (kept c (l 0 (omega arith)) (dec_lt 0 (times c zs)))) (kids cs (λ j h. l (suc j) (omega arith)))

    go : Dec (0 < times q zs) → (nth ns' q).total ≡ due ns' q
    go (yes h) =
        let e = f q (omega arith) in
        ap (λ (v : NodeVal). v.total) e ∙ sym (ap (λ (v : NodeVal). length v.pairs + totals ns' v.edges) e)
    go (no d) =
        t q (omega arith) ∙ T q refl ∙ sym (ap (λ (n : ℕ). length (nth ns' q).pairs + n) (kids (nth ns' q).edges (λ j l. (L q j l).live)) ∙ ap (λ (x : Body). length x.pairs + totals ns x.edges) (b q u (omega arith)))

-- ---- one count put

module _ (ns : List NodeVal) (q x : ℕ) where
  pub put_body : (p : ℕ) → body_of (nth (put_total ns q x) p) ≡ body_of (nth ns p)
  put_body p = go (ℕ_discrete p q) (dec_lt q (length ns))
    where
      go : Dec (p ≡ q) → Dec (q < length ns) → body_of (nth (put_total ns q x) p) ≡ body_of (nth ns p)
      go (yes e) (yes h) = rw e (ap body_of (get_or-set_same ns q (with_total (nth ns q) x) blank h))
      go (yes e) (no d) = rw (set_out ns q (with_total (nth ns q) x) (omega arith)) refl
      go (no d) h = ap body_of (get_or-set_other ns q p (with_total (nth ns q) x) blank d)

  pub put_other : (p : ℕ) → (p ≡ q → ⊥) → (nth (put_total ns q x) p).total ≡ (nth ns p).total
  put_other p d = ap (λ (v : NodeVal). v.total) (get_or-set_other ns q p (with_total (nth ns q) x) blank d)

  pub put_same : q < length ns → (nth (put_total ns q x) q).total ≡ x
  put_same h = ap (λ (v : NodeVal). v.total) (get_or-set_same ns q (with_total (nth ns q) x) blank h)

  -- counts of nodes of which q is m: they differ by m times as much
  put_none : (cs : List ℕ) → times q cs ≡ 0 → totals (put_total ns q x) cs ≡ totals ns cs
  put_none [] u = refl
  put_none (c ∷ cs) u = omega (arith, put_other c (λ e. omega (arith, one_same c q e)), put_none cs (omega arith))

  put_once : q < length ns → (cs : List ℕ) → times q cs ≡ 1 → totals (put_total ns q x) cs + (nth ns q).total ≡ totals ns cs + x
  put_once h [] u = absurd (omega arith)
  put_once h (c ∷ cs) u = go (ℕ_discrete c q) (put_once h cs)
    where
      go : Dec (c ≡ q) → (times q cs ≡ 1 → totals (put_total ns q x) cs + (nth ns q).total ≡ totals ns cs + x) → totals (put_total ns q x) (c ∷ cs) + (nth ns q).total ≡ totals ns (c ∷ cs) + x
      go (yes e) f = omega (arith, put_none cs (omega (arith, one_same c q e)), ap (λ (y : ℕ). (nth ns y).total) e, ap (λ (y : ℕ). (nth (put_total ns q x) y).total) e, put_same h)
      go (no d) f = omega (arith, f (omega (arith, one_other c q d)), put_other c d)

  pub put_due : (p : ℕ) → times q (nth ns p).edges ≡ 0 → due (put_total ns q x) p ≡ due ns p
  put_due p u = ap (λ (b : Body). length b.pairs + totals (put_total ns q x) b.edges) (put_body p) ∙ ap (λ (n : ℕ). length (nth ns p).pairs + n) (put_none (nth ns p).edges u)

-- an edge of p that leads to q stands at one of p's places
edge_place : (cs : List ℕ) (q : ℕ) → 1 ≤ times q cs → (i : ℕ) × (i < length cs) × (get_or cs i 0 ≡ q)
edge_place [] q u = absurd (not-suc-le-zero u)
edge_place (c ∷ cs) q u = go (ℕ_discrete c q) (edge_place cs q)
  where
    go : Dec (c ≡ q) → (1 ≤ times q cs → (i : ℕ) × (i < length cs) × (get_or cs i 0 ≡ q)) → (i : ℕ) × (i < length (c ∷ cs)) × (get_or (c ∷ cs) i 0 ≡ q)
    go (yes e) f = (0, omega arith, e)
    go (no d) f = let r = f (omega (arith, one_other c q d)) in (suc r.0, omega (arith, r.1), r.2)

-- only its parent has an edge to a node
pub not_parent : (ns : List NodeVal) → Links ns → (p q : ℕ) → ((nth ns q).parent ≡ p → ⊥) → times q (nth ns p).edges ≡ 0
not_parent ns L p q d = go (dec_lt 0 (times q (nth ns p).edges))
  where
    go : Dec (0 < times q (nth ns p).edges) → times q (nth ns p).edges ≡ 0
    go (no u) = omega arith
    go (yes u) =
        let r = edge_place (nth ns p).edges q (omega arith) in
        absurd (d (ap (λ (c : ℕ). (nth ns c).parent) (sym r.2) ∙ ap (λ (l : Link). l.parent) (L p r.0 r.1).link))

-- a count put right: then only its parent's may be wrong
pub recount_up : (ns : List NodeVal) → Links ns → (q : ℕ) (xs : List ℕ) → q < length ns → TotalsBut (q ∷ xs) ns → TotalsBut ((nth ns q).parent ∷ xs) (recount ns q)
recount_up ns L q xs h T p u = go (ℕ_discrete p q)
  where
    none_here : times q (nth ns p).edges ≡ 0
    none_here = not_parent ns L p q (λ e. omega (arith, one_same (nth ns q).parent p e))

    go : Dec (p ≡ q) → (nth (recount ns q) p).total ≡ due (recount ns q) p
    go (yes e) = ap (λ (c : ℕ). (nth (recount ns q) c).total) e ∙ put_same ns q (due ns q) h ∙ ap (due ns) (sym e) ∙ sym (put_due ns q (due ns q) p none_here)
    go (no d) = put_other ns q (due ns q) p d ∙ T p (omega (arith, one_other q p (λ e. d (sym e)))) ∙ sym (put_due ns q (due ns q) p none_here)

-- and by as much as it was itself
pub recount_parent : (ns : List NodeVal) (p q : ℕ) → q < length ns → times q (nth ns p).edges ≡ 1 → due (recount ns q) p + (nth ns q).total ≡ due ns p + due ns q
recount_parent ns p q h u =
    omega (arith, put_once ns q (due ns q) h (nth ns p).edges u, ap (λ (b : Body). length b.pairs + totals (recount ns q) b.edges) (put_body ns q (due ns q) p))

-- so that one pair more, or less, goes up: a count short by one put right leaves its parent's short by one, and alone
pub record Short (ns : List NodeVal) (q : ℕ) : Type 0 where
  pub others : TotalsBut (q ∷ []) ns
  pub by_one : (nth ns q).total + 1 ≡ due ns q

pub short_up : (ns : List NodeVal) → Links ns → (p q : ℕ) → q < length ns → (nth ns q).parent ≡ p → (p ≡ q → ⊥) → times q (nth ns p).edges ≡ 1 → Short ns q → Short (recount ns q) p
short_up ns L p q h e d u s = record {
  others = subst (λ (m : ℕ). TotalsBut (m ∷ []) (recount ns q)) e (recount_up ns L q [] h s.others);
  by_one = omega (arith, put_other ns q (due ns q) p d, s.others p (omega (arith, one_other q p (λ z. d (sym z)))), recount_parent ns p q h u, s.by_one);
}

-- at the root none is left
pub short_root : (ns : List NodeVal) → Links ns → (q : ℕ) → length ns ≤ none → q < length ns → (nth ns q).parent ≡ none → Short ns q → Totals (recount ns q)
short_root ns L q few h e s p u = go (ℕ_discrete p q)
  where
    by : Dec (p ≡ none) → times q (nth ns p).edges ≡ 0
    by (yes z) = ap (λ (v : NodeVal). times q v.edges) (past ns p (omega arith))
    by (no d) = not_parent ns L p q (λ z. d (sym z ∙ e))

    alone : times q (nth ns p).edges ≡ 0
    alone = by (ℕ_discrete p none)

    go : Dec (p ≡ q) → (nth (recount ns q) p).total ≡ due (recount ns q) p
    go (yes e) = ap (λ (c : ℕ). (nth (recount ns q) c).total) e ∙ put_same ns q (due ns q) h ∙ ap (due ns) (sym e) ∙ sym (put_due ns q (due ns q) p alone)
    go (no d) = put_other ns q (due ns q) p d ∙ s.others p (omega (arith, one_other q p (λ e. d (sym e)))) ∙ sym (put_due ns q (due ns q) p alone)
