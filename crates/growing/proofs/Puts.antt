-- A node with another body, some of whose edges lead to other children; from it a pair put in, a node split, a level put on.
-- Assumes nothing.
use mathlib.Core.Path.{◌≡◌, refl, sym, ap, ◌∙◌}
use mathlib.Core.Logic.{◌⊎◌, inl, inr, ◌≢◌}
use mathlib.Core.List.{List, [], ◌∷◌}
use Prim.Native.Nat.{ℕ, zero, suc, ◌+◌, ◌≤◌, ◌<◌}
use native.Mathlib.Nat.{not-suc-le-zero}
use native.Mathlib.Decide.{ℕ_discrete, dec_lt}
use native.Mathlib.Omega.{arith}
use lib.ListN.{length, take, drop, get_or, set, length-set, length-take}
use lib.Seq.{get_or-set_same, get_or-set_other, get_or-take, set-set, set_comm}
use Rattle.model.specs.Lists.{one, times, insert_at}
use Rattle.model.specs.Tree.{Pair}
use Rattle.model.specs.Layout.{none, largest_count, internal, NodeVal, nth, blank}
use Rattle.model.specs.Words.{free_val}
use Rattle.model.proofs.Lists.{one_same, one_other, times_append}
use Rattle.store.specs.Links.{body_of, link_of, with_body, with_edges, fresh, relink_from}
use Rattle.store.proofs.Relink.{from_none, from_body}
use Rattle.leaf.specs.Split.{cut_bodies, split_nodes}
use Rattle.internal.specs.Inner.{fit_nodes, crown_nodes}
use Rattle.standing.specs.Kept.{Child, Links, leads, Edged, In, LinksBut, Bodied, Kept}
use Rattle.standing.proofs.Leads.{times_parts, leads_node, leads_set, links_edged}
use Rattle.standing.proofs.Relinks.{relinked, links_all}
use Rattle.standing.proofs.Changes.{root_unled, free_unled, relinked_one, kept_linked, kept_trans, kept_more, anew_kept, bodied_child}

-- ---- one node with another body

-- the edges es are to be those of n: up to k the same, from k on to be linked. Of its children, ys are new; of these, zs had no parent
pub record Joins (ns : List NodeVal) (n : ℕ) (es : List ℕ) (k : ℕ) (ys zs : List ℕ) : Type 0 where
  pub few : length ns ≤ largest_count
  pub node : n < length ns
  pub low : (j : ℕ) → j < k → j < length es → (j < length (nth ns n).edges) × (get_or es j 0 ≡ get_or (nth ns n).edges j 0)
  pub count : (c : ℕ) → times c es ≤ times c (nth ns n).edges + times c ys
  pub once : (c : ℕ) → leads c ns + times c ys ≤ 1
  pub fine : (c : ℕ) → 1 ≤ times c ys → (c < length ns) × (1 ≤ (nth ns c).state)
  pub loose : (c : ℕ) → times c zs ≡ 0 → (nth ns c).parent ≡ none → times c ys ≡ 0

module _ (ns : List NodeVal) (L : Links ns) (n : ℕ) (ps : List Pair) (es : List ℕ) (k : ℕ) (ys zs : List ℕ) (J : Joins ns n es k ys zs) where
  abbrev v : NodeVal
  v = with_body (nth ns n) ps es

  abbrev mid : List NodeVal
  mid = set ns n v

  at_n : nth mid n ≡ v
  at_n = get_or-set_same ns n v blank J.node

  other : (q : ℕ) → q ≢ n → nth mid q ≡ nth ns q
  other q d = get_or-set_other ns n q v blank d

  -- a field that v has from n is the same everywhere
  same : {A : Type 0} (f : NodeVal → A) → f v ≡ f (nth ns n) → (q : ℕ) → f (nth mid q) ≡ f (nth ns q)
  same {A} f e q = go (ℕ_discrete q n)
    where
      go : Dec (q ≡ n) → f (nth mid q) ≡ f (nth ns q)
      go (yes d) = rw d (ap f at_n ∙ e)
      go (no d) = ap f (other q d)

  mid_bodied : Bodied ns mid (n ∷ [])
  mid_bodied = record {
    long = length-set ns n v;
    linking = same link_of refl;
    states = same (λ (u : NodeVal). u.state) refl;
    others = λ q z. other q (λ e. omega (arith, one_same n q (sym e)));
  }

  mid_leads : (c : ℕ) → leads c mid ≤ leads c ns + times c ys
  mid_leads c = omega (arith, leads_set c ns n v J.node, J.count c)

  new_or_old : (c : ℕ) (P : Type 0) → 1 ≤ leads c mid → (1 ≤ leads c ns → P) → (1 ≤ times c ys → P) → P
  new_or_old c P h f g = go (dec_lt 0 (times c ys))
    where
      go : Dec (0 < times c ys) → P
      go (yes u) = g u
      go (no d) = f (omega (arith, mid_leads c))

  mid_edged : Edged mid
  mid_edged =
      let e = links_edged ns L in
      record {
        once = λ c. omega (arith, mid_leads c, J.once c);
        within = λ c h. rw length-set (new_or_old c (c < length ns) h (e.within c) (λ u. (J.fine c u).0));
        live = λ c h. rw (mid_bodied.states c) (new_or_old c (1 ≤ (nth ns c).state) h (e.live c) (λ u. (J.fine c u).1));
      }

  mid_but : LinksBut (record { no = n; from = k } ∷ []) mid
  mid_but q j h = go (ℕ_discrete q n) (dec_lt j k)
    where
      go : Dec (q ≡ n) → Dec (j < k) → In (record { no = n; from = k } ∷ []) q j ⊎ Child mid q j (get_or (nth mid q).edges j 0)
      go (yes e) (no d) = inl (inl (e, omega arith))
      go (yes e) (yes o) =
          let u = J.low j o (rw (e, at_n) at h) in
          inr (rw (e, at_n, u.1) (bodied_child ns mid (n ∷ []) n j _ mid_bodied (L n j u.0)))
      go (no d) b = let w = other q d in inr (rw w (bodied_child ns mid (n ∷ []) q j _ mid_bodied (L q j (rw w at h))))

  pub put_kept : Kept ns (relink_from mid n k) (n ∷ []) zs
  put_kept =
      kept_linked ns mid (relink_from mid n k) (n ∷ []) zs L J.few mid_bodied (relinked_one mid n k)
      (λ q s. go q (λ u. omega (arith, (J.fine q u).1)))
      (λ q z s. go q (λ u. omega (arith, J.loose q z s)))
      (links_all (relink_from mid n k) (relinked mid mid_edged n k [] mid_but))
    where
      go : (q : ℕ) → (1 ≤ times q ys → ⊥) → leads q mid ≤ leads q ns
      go q d = by (dec_lt 0 (times q ys))
        where
          by : Dec (0 < times q ys) → leads q mid ≤ leads q ns
          by (yes u) = absurd (d u)
          by (no e) = omega (arith, mid_leads q)

  pub put_body : body_of (nth (relink_from mid n k) n) ≡ record { state = (nth ns n).state; pairs = ps; edges = es }
  put_body = from_body mid n k n ∙ ap body_of at_n

-- one new child, which had no parent
module _ (ns : List NodeVal) (L : Links ns) (few : length ns ≤ largest_count) (c : ℕ) (o : c < length ns) (live : 1 ≤ (nth ns c).state) (loose : (nth ns c).parent ≡ none) where
  only_once : (q : ℕ) → leads q ns + times q (c ∷ []) ≤ 1
  only_once q = go (ℕ_discrete c q)
    where
      go : Dec (c ≡ q) → leads q ns + times q (c ∷ []) ≤ 1
      go (yes e) = omega (arith, one_same c q e, root_unled ns L few c loose, ap (λ (t : ℕ). leads t ns) e)
      go (no d) = omega (arith, one_other c q d, (links_edged ns L).once q)

  only_fine : (q : ℕ) → 1 ≤ times q (c ∷ []) → (q < length ns) × (1 ≤ (nth ns q).state)
  only_fine q h = go (ℕ_discrete c q)
    where
      go : Dec (c ≡ q) → (q < length ns) × (1 ≤ (nth ns q).state)
      go (yes e) = rw (← e) (o, live)
      go (no d) = absurd (omega (arith, one_other c q d))

  pub join_one : (n : ℕ) (es : List ℕ) (k : ℕ) → n < length ns → ((j : ℕ) → j < k → j < length es → (j < length (nth ns n).edges) × (get_or es j 0 ≡ get_or (nth ns n).edges j 0))
      → ((q : ℕ) → times q es ≡ times q (nth ns n).edges + one c q) → Joins ns n es k (c ∷ []) (c ∷ [])
  join_one n es k on low count = record { few = few; node = on; low = low; count = λ q. omega (arith, count q); once = only_once; fine = only_fine; loose = λ q z e. z }

-- ---- a pair and an edge put in

insert_low : (l : List ℕ) (k c j : ℕ) → j < k → k ≤ length l → get_or (insert_at l k c) j 0 ≡ get_or l j 0
unfolding insert_at
insert_low l zero c j o h = absurd (not-suc-le-zero o)
insert_low [] (suc k) c j o h = absurd (not-suc-le-zero h)
insert_low (x ∷ l) (suc k) c zero o h = refl
insert_low (x ∷ l) (suc k) c (suc j) o h = insert_low l k c j (omega arith) (omega arith)

times_insert : (q : ℕ) (l : List ℕ) (k c : ℕ) → times q (insert_at l k c) ≡ times q l + one c q
unfolding insert_at
times_insert q l k c = omega (arith, times_append q (take k l) (c ∷ drop k l), times_parts q k l)

module _ (ns : List NodeVal) (L : Links ns) (few : length ns ≤ largest_count) (n i : ℕ) (p : Pair) (c : ℕ) (on : n < length ns) (place : i + 1 ≤ length (nth ns n).edges) (o : c < length ns) (live : 1 ≤ (nth ns c).state) (loose : (nth ns c).parent ≡ none) where
  fit_joins : Joins ns n (insert_at (nth ns n).edges (i + 1) c) (i + 1) (c ∷ []) (c ∷ [])
  fit_joins = join_one ns L few c o live loose n (insert_at (nth ns n).edges (i + 1) c) (i + 1) on (λ j a b. (omega arith, insert_low (nth ns n).edges (i + 1) c j a place)) (λ q. times_insert q (nth ns n).edges (i + 1) c)

  pub fit_kept : Kept ns (fit_nodes ns n i p c) (n ∷ []) (c ∷ [])
  unfolding fit_nodes
  fit_kept = put_kept ns L n (insert_at (nth ns n).pairs i p) (insert_at (nth ns n).edges (i + 1) c) (i + 1) (c ∷ []) (c ∷ []) fit_joins

  pub fit_body : body_of (nth (fit_nodes ns n i p c) n) ≡ record { state = (nth ns n).state; pairs = insert_at (nth ns n).pairs i p; edges = insert_at (nth ns n).edges (i + 1) c }
  unfolding fit_nodes
  fit_body = put_body ns L n (insert_at (nth ns n).pairs i p) (insert_at (nth ns n).edges (i + 1) c) (i + 1) (c ∷ []) (c ∷ []) fit_joins

-- ---- a node taken

module _ (ns : List NodeVal) (L : Links ns) (few : length ns ≤ largest_count) (m next st : ℕ) (o : m < length ns) (f : nth ns m ≡ free_val next) where
  pub take_kept : Kept ns (set ns m (fresh st)) (m ∷ []) (m ∷ [])
  take_kept = anew_kept ns L m (fresh st) o (free_unled ns L few m (ap (λ (v : NodeVal). v.state) f)) refl

-- ---- a node split

module _ (ns : List NodeVal) (L : Links ns) (few : length ns ≤ largest_count) (n m next i : ℕ) (on : n < length ns) (om : m < length ns) (d : n ≢ m) (f : nth ns m ≡ free_val next) where
  abbrev st : ℕ
  st = (nth ns n).state

  abbrev ps : List Pair
  ps = (nth ns n).pairs

  abbrev es : List ℕ
  es = (nth ns n).edges

  -- taken; then cut; then the rest put into it
  abbrev one₁ : List NodeVal
  one₁ = set ns m (fresh st)

  abbrev low_v : NodeVal
  low_v = with_body (nth ns n) (take i ps) (take (i + 1) es)

  abbrev two₂ : List NodeVal
  two₂ = set one₁ n low_v

  abbrev high_v : NodeVal
  high_v = with_body (fresh st) (drop (i + 1) ps) (drop (i + 1) es)

  took : Kept ns one₁ (m ∷ []) (m ∷ [])
  took = take_kept ns L few m next st om f

  n₁ : nth one₁ n ≡ nth ns n
  n₁ = get_or-set_other ns m n (fresh st) blank d

  m₂ : nth two₂ m ≡ fresh st
  m₂ = get_or-set_other one₁ n m low_v blank (λ e. d (sym e)) ∙ get_or-set_same ns m (fresh st) blank om

  few₁ : length one₁ ≤ largest_count
  few₁ = rw length-set few

  -- what stays of the edges
  less : Joins one₁ n (take (i + 1) es) (i + 1) [] []
  less = record {
    few = few₁;
    node = rw length-set on;
    low = λ j a b. rw n₁ (omega (arith, length-take (i + 1) es), get_or-take (i + 1) es j 0 a);
    count = λ c. rw n₁ (omega (arith, times_parts c (i + 1) es));
    once = λ c. omega (arith, (links_edged one₁ took.links).once c);
    fine = λ c h. absurd (not-suc-le-zero h);
    loose = λ c z e. refl;
  }

  two_is : relink_from (set one₁ n (with_body (nth one₁ n) (take i ps) (take (i + 1) es))) n (i + 1) ≡ two₂
  two_is = rw n₁ (from_none two₂ n (i + 1) (rw (get_or-set_same one₁ n low_v blank (rw length-set on)) (omega (arith, length-take (i + 1) es))))

  cut₂ : Kept one₁ two₂ (n ∷ []) []
  cut₂ = rw two_is at (put_kept one₁ took.links n (take i ps) (take (i + 1) es) (i + 1) [] [] less)

  two_leads : (c : ℕ) → leads c two₂ + times c (drop (i + 1) es) ≡ leads c one₁
  two_leads c = omega (arith, leads_set c one₁ n low_v (rw length-set on), times_parts c (i + 1) es, ap (λ (v : NodeVal). times c v.edges) n₁)

  moved_led : (c : ℕ) → 1 ≤ times c (drop (i + 1) es) → 1 ≤ leads c ns
  moved_led c h = omega (arith, times_parts c (i + 1) es, leads_node c ns n)

  -- a field that the cut keeps, of a node in use
  two_same : {A : Type 0} (g : NodeVal → A) → g low_v ≡ g (nth ns n) → (c : ℕ) → 1 ≤ (nth ns c).state → g (nth two₂ c) ≡ g (nth ns c)
  two_same {A} g e c l = by_n (ℕ_discrete c n)
    where
      not_m : c ≢ m
      not_m u = omega (arith, ap (λ (v : NodeVal). v.state) f, ap (λ (t : ℕ). (nth ns t).state) u)

      by_n : Dec (c ≡ n) → g (nth two₂ c) ≡ g (nth ns c)
      by_n (yes u) = rw u (ap g (get_or-set_same one₁ n low_v blank (rw length-set on)) ∙ e)
      by_n (no u) = ap g (get_or-set_other one₁ n c low_v blank u ∙ get_or-set_other ns m c (fresh st) blank not_m)

  more : Joins two₂ m (drop (i + 1) es) 0 (drop (i + 1) es) []
  more = record {
    few = rw length-set few₁;
    node = rw (length-set, length-set) om;
    low = λ j a b. absurd (not-suc-le-zero a);
    count = λ c. omega arith;
    once = λ c. omega (arith, two_leads c, (links_edged one₁ took.links).once c);
    fine = λ c h. let e = links_edged ns L in let l = e.live c (moved_led c h) in (rw (length-set, length-set) (e.within c (moved_led c h)), rw (two_same (λ (v : NodeVal). v.state) refl c l) l);
    loose = λ c z e. unmoved c e (dec_lt 0 (times c (drop (i + 1) es)));
  }
    where
      unmoved : (c : ℕ) → (nth two₂ c).parent ≡ none → Dec (0 < times c (drop (i + 1) es)) → times c (drop (i + 1) es) ≡ 0
      unmoved c e (yes h) = let l = moved_led c h in absurd (omega (arith, root_unled ns L few c (sym (two_same (λ (v : NodeVal). v.parent) refl c ((links_edged ns L).live c l)) ∙ e)))
      unmoved c e (no h) = omega arith

  nodes_are : relink_from (set two₂ m (with_body (nth two₂ m) (drop (i + 1) ps) (drop (i + 1) es))) m 0 ≡ split_nodes ns n m i
  unfolding split_nodes
  nodes_are = rw m₂ (ap (λ (t : List NodeVal). relink_from t m 0) (ap (λ (t : List NodeVal). set t m high_v) (set_comm ns m n (fresh st) low_v (λ e. d (sym e))) ∙ set-set (set ns n low_v) m (fresh st) high_v))

  put₃ : Kept two₂ (split_nodes ns n m i) (m ∷ []) []
  put₃ = rw nodes_are at (put_kept two₂ cut₂.links m (drop (i + 1) ps) (drop (i + 1) es) 0 (drop (i + 1) es) [] more)

  pub split_kept : Kept ns (split_nodes ns n m i) (n ∷ m ∷ []) (m ∷ [])
  split_kept =
      kept_trans (kept_more (m ∷ []) (m ∷ []) (n ∷ m ∷ []) (m ∷ []) (λ q z. omega arith) (λ q z. z) took)
      (kept_trans (kept_more (n ∷ []) [] (n ∷ m ∷ []) (m ∷ []) (λ q z. omega arith) (λ q z. refl) cut₂) (kept_more (m ∷ []) [] (n ∷ m ∷ []) (m ∷ []) (λ q z. omega arith) (λ q z. refl) put₃))

  cut_m : nth (cut_bodies ns n m i) m ≡ high_v
  cut_m = get_or-set_same (set ns n low_v) m high_v blank (rw length-set om)

  pub split_low : body_of (nth (split_nodes ns n m i) n) ≡ record { state = st; pairs = take i ps; edges = take (i + 1) es }
  unfolding split_nodes
  split_low = from_body (cut_bodies ns n m i) m 0 n ∙ ap body_of (get_or-set_other (set ns n low_v) m n high_v blank d ∙ get_or-set_same ns n low_v blank on)

  pub split_high : body_of (nth (split_nodes ns n m i) m) ≡ record { state = st; pairs = drop (i + 1) ps; edges = drop (i + 1) es }
  unfolding split_nodes
  split_high = from_body (cut_bodies ns n m i) m 0 m ∙ ap body_of cut_m

  -- no edge leads to the new node
  pub split_loose : link_of (nth (split_nodes ns n m i) m) ≡ record { parent = none; place = 0 }
  split_loose = put₃.roots m refl (ap (λ (v : NodeVal). v.parent) m₂) ∙ ap link_of m₂

-- ---- a level put on

-- there is a free node, and one that hangs nowhere
pub record Crowns (ns : List NodeVal) (old m next : ℕ) : Type 0 where
  pub few : length ns ≤ largest_count
  pub inside : m < length ns
  pub is_free : nth ns m ≡ free_val next
  pub root : old < length ns
  pub live : 1 ≤ (nth ns old).state
  pub loose : (nth ns old).parent ≡ none

module _ (ns : List NodeVal) (L : Links ns) (old new next : ℕ) (C : Crowns ns old new next) where
  abbrev took₁ : List NodeVal
  took₁ = set ns new (fresh internal)

  abbrev crown : NodeVal
  crown = with_edges (fresh internal) (old ∷ [])

  taking : Kept ns took₁ (new ∷ []) (new ∷ [])
  taking = take_kept ns L C.few new next internal C.inside C.is_free

  new₁ : nth took₁ new ≡ fresh internal
  new₁ = get_or-set_same ns new (fresh internal) blank C.inside

  push_other : old ≢ new
  push_other e = omega (arith, ap (λ (v : NodeVal). v.state) C.is_free, C.live, ap (λ (t : ℕ). (nth ns t).state) e)

  old₁ : nth took₁ old ≡ nth ns old
  old₁ = get_or-set_other ns new old (fresh internal) blank push_other

  crowned : nth (set ns new crown) new ≡ crown
  crowned = get_or-set_same ns new crown blank C.inside

  joins : Joins took₁ new (old ∷ []) 0 (old ∷ []) (old ∷ [])
  joins =
      join_one took₁ taking.links (rw length-set C.few) old (rw length-set C.root) (rw old₁ C.live) (ap (λ (v : NodeVal). v.parent) old₁ ∙ C.loose) new (old ∷ []) 0 (rw length-set C.inside) (λ j a b. absurd (not-suc-le-zero a)) (λ q. rw new₁ (omega arith))

  pushed_is : relink_from (set took₁ new (with_body (nth took₁ new) [] (old ∷ []))) new 0 ≡ crown_nodes ns new old
  unfolding crown_nodes
  pushed_is = rw (new₁, set-set ns new (fresh internal) crown, crowned) refl

  pub push_kept : Kept ns (crown_nodes ns new old) (new ∷ []) (new ∷ old ∷ [])
  push_kept =
      kept_trans (kept_more (new ∷ []) (new ∷ []) (new ∷ []) (new ∷ old ∷ []) (λ q z. z) (λ q z. omega arith) taking)
      (kept_more (new ∷ []) (old ∷ []) (new ∷ []) (new ∷ old ∷ []) (λ q z. z) (λ q z. omega arith) (rw pushed_is at (put_kept took₁ taking.links new [] (old ∷ []) 0 (old ∷ []) (old ∷ []) joins)))

  push_new : nth (crown_nodes ns new old) new ≡ crown
  unfolding crown_nodes
  push_new = get_or-set_other (set ns new crown) old new _ blank (λ e. push_other (sym e)) ∙ crowned

  pub push_body : body_of (nth (crown_nodes ns new old) new) ≡ record { state = internal; pairs = []; edges = old ∷ [] }
  push_body = ap body_of push_new

  pub push_root : link_of (nth (crown_nodes ns new old) new) ≡ record { parent = none; place = 0 }
  push_root = ap link_of push_new
