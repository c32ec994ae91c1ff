-- The walk that counts: the trees below a node in turn, then the node itself.
-- Assumes nothing.
use Prim.Native.Nat.{ℕ, zero, suc, ◌+◌, ◌-◌, ◌≤◌, ◌<◌}
use native.Mathlib.Numerals.{sub-one}
use native.Mathlib.Omega.{arith}
use mathlib.Core.Path.{◌≡◌, refl, sym, ap, ap₂, ◌∙◌, subst}
use mathlib.Core.List.{List, [], ◌∷◌, ◌++◌, map, append_assoc, append-nil}
use lib.ListN.{length, get_or, set, length-append, length-map}
use Rattle.model.specs.Lists.{All, one}
use Rattle.model.specs.Layout.{most, largest_count, edges_word, length_word, word_at, NodeVal, nth, Arena}
use Rattle.model.specs.Tree.{Item, Tree, flat, flats, has, has_in}
use Rattle.model.specs.Words.{root_no, kind}
use Rattle.model.specs.Sound.{AllIn}
use Rattle.model.proofs.Lists.{one_same}
use Rattle.node.specs.Reading.{Within, Has}
use Rattle.node.proofs.Reading.{within, len_is, edge_is}
use Rattle.store.specs.Links.{Body}
use Rattle.balance.specs.Moves.{Shaped}
use Rattle.standing.specs.Kept.{Links}
use Rattle.standing.specs.Standing.{numbered, Stands}
use Rattle.standing.specs.Totals.{totals, due, recount}
use Rattle.standing.proofs.Leads.{one_self}
use Rattle.standing.proofs.Totals.{put_other, put_same}
use Rattle.standing.proofs.Frames.{stands_kept}
use Rattle.standing.proofs.Changes.{kept_trans}
use Rattle.shrinking.proofs.Steps.{shaped}
use Rattle.totals.proofs.Settling.{flat_few, arena_small, put_kept}
use Rattle.totals.proofs.Siblings.{SetCall}
use Rattle.counting.specs.Counting.{Right, TreeIn, CountedIn, kids, has_all, Upto, EdgesIn}

-- ---- a node whose children's counts are true

gaps_many : (r : List (Item (Tree 0))) → length (map (λ (x : Item ℕ). x.pair) (numbered 0 r)) ≡ length (flats (flat 0) r)
gaps_many [] = refl
gaps_many (x ∷ r) = ap suc (gaps_many r)

module _ (ns : List NodeVal) where
  items_due : (h : ℕ) (r : List (Item (Tree (suc h)))) → AllIn (Right ns (suc h)) r
      → length (map (λ (x : Item ℕ). x.pair) (numbered (suc h) r)) + totals ns (map (λ (x : Item ℕ). x.edge) (numbered (suc h) r)) ≡ length (flats (flat (suc h)) r)
  items_due h [] a = refl
  items_due h (x ∷ r) a = omega (arith, a.0.0, items_due h r a.1, length-append (flat (suc h) x.edge) (flats (flat (suc h)) r))

  pub due_right : (h : ℕ) (t : Tree (suc h)) → Stands ns (suc h) t → Right ns h t.first → AllIn (Right ns h) t.rest → due ns t.no ≡ length (flat (suc h) t)
  due_right zero t s a b = ap (λ (x : Body). length x.pairs + totals ns x.edges) s.0 ∙ omega (arith, gaps_many t.rest)
  due_right (suc h) t s a b = ap (λ (x : Body). length x.pairs + totals ns x.edges) s.0 ∙ omega (arith, a.0, items_due h t.rest b, length-append (flat (suc h) t.first) (flats (flat (suc h)) t.rest))

-- counts of other nodes do not matter
module _ (ns ns' : List NodeVal) where
  items_same : (h : ℕ) → ((t : Tree h) → ((m : ℕ) → 1 ≤ has m h t → (nth ns' m).total ≡ (nth ns m).total) → Right ns h t → Right ns' h t) → (r : List (Item (Tree h))) → ((m : ℕ) → 1 ≤ has_in (has m h) r → (nth ns' m).total ≡ (nth ns m).total) → AllIn (Right ns h) r → AllIn (Right ns' h) r
  items_same h f [] e a = tt
  items_same h f (x ∷ r) e a = (f x.edge (λ m u. e m (omega arith)) a.0, items_same h f r (λ m u. e m (omega arith)) a.1)

  right_same : (h : ℕ) (t : Tree h) → ((m : ℕ) → 1 ≤ has m h t → (nth ns' m).total ≡ (nth ns m).total) → Right ns h t → Right ns' h t
  right_same zero t e a = tt
  right_same (suc h) t e a = (
    e t.no (omega (arith, one_self t.no)) ∙ a.0,
    right_same h t.first (λ m u. e m (omega arith)) a.1,
    items_same h (right_same h) t.rest (λ m u. e m (omega arith)) a.2,
  )

-- ---- the node itself

kind_live : (h : ℕ) → 1 ≤ kind h
kind_live zero = omega arith
kind_live (suc h) = omega arith

module _ {w hd : List ℕ} {ns : List NodeVal} (h : ℕ) (t : Tree (suc h)) (a : Arena w hd ns) (s : Stands ns (suc h) t) (L : Links ns) (few : length ns ≤ largest_count) (once : (m : ℕ) → has m (suc h) t ≤ 1) (inside : (m : ℕ) → 1 ≤ has m (suc h) t → m < length ns)
    (x : Right ns h t.first) (y : AllIn (Right ns h) t.rest) where
  in_here : t.no < length ns
  in_here = inside t.no (omega (arith, one_self t.no))

  here : Shaped ns t.no
  here = shaped ns L t.no (root_no h t.first) (numbered h t.rest) in_here h s.0

  pub node_due : Shaped ns t.no × (due ns t.no < 18446744073709551616)
  node_due = (here, omega (arith, due_right ns h t s x y, flat_few ns (arena_small ns a) few (suc h) t s once inside))

  live : 1 ≤ (nth ns t.no).state
  live = subst (λ (k : ℕ). 1 ≤ k) (sym (ap (λ (b : Body). b.state) s.0)) (kind_live h)

  pub node_right : (w' : List ℕ) → Arena w' hd (recount ns t.no) → CountedIn w' hd ns h t
  node_right w' b = record {
    nodes = recount ns t.no;
    arena = b;
    same = put_kept ns L t.no (due ns t.no) live;
    others = λ m u. put_other ns t.no (due ns t.no) m (λ e. omega (arith, one_same t.no m (sym e)));
    right = (
      put_same ns t.no (due ns t.no) in_here ∙ due_right ns h t s x y,
      right_same ns (recount ns t.no) h t.first (λ m u. put_other ns t.no (due ns t.no) m (λ e. omega (arith, once m, one_same t.no m (sym e)))) x,
      items_same ns (recount ns t.no) h (right_same ns (recount ns t.no) h) t.rest (λ m u. put_other ns t.no (due ns t.no) m (λ e. omega (arith, once m, one_same t.no m (sym e)))) y,
    );
  }

-- ---- the trees below it, as a list

kids_has : (m h : ℕ) (r : List (Item (Tree h))) → has_all m h (map (λ (x : Item (Tree h)). x.edge) r) ≡ has_in (has m h) r
kids_has m h [] = refl
kids_has m h (x ∷ r) = ap (λ (k : ℕ). has m h x.edge + k) (kids_has m h r)

pub in_kids : (m h : ℕ) (t : Tree (suc h)) → has m (suc h) t ≡ one t.no m + has_all m h (kids h t)
in_kids m h t = omega (arith, kids_has m h t.rest)

module _ (h : ℕ) (P : Tree h → Type 0) where
  all_kids : (r : List (Item (Tree h))) → AllIn P r → All P (map (λ (x : Item (Tree h)). x.edge) r)
  all_kids [] a = tt
  all_kids (x ∷ r) a = (a.0, all_kids r a.1)

  kids_all : (r : List (Item (Tree h))) → All P (map (λ (x : Item (Tree h)). x.edge) r) → AllIn P r
  kids_all [] a = tt
  kids_all (x ∷ r) a = (a.0, kids_all r a.1)

  all_right : (ls rs : List (Tree h)) → All P (ls ++ rs) → All P rs
  all_right [] rs a = a
  all_right (x ∷ ls) rs a = all_right ls rs a.1

  all_last : (ls : List (Tree h)) (t : Tree h) → All P ls → P t → All P (ls ++ (t ∷ []))
  all_last [] t a p = (p, tt)
  all_last (x ∷ ls) t a p = (a.0, all_last ls t a.1 p)

has_append : (m h : ℕ) (ls rs : List (Tree h)) → has_all m h (ls ++ rs) ≡ has_all m h ls + has_all m h rs
has_append m h [] rs = omega arith
has_append m h (t ∷ ls) rs = omega (arith, has_append m h ls rs)

edges_kids : (h : ℕ) (r : List (Item (Tree (suc h)))) → map (λ (x : Item ℕ). x.edge) (numbered (suc h) r) ≡ map (λ (t : Tree (suc h)). t.no) (map (λ (x : Item (Tree (suc h))). x.edge) r)
edges_kids h [] = refl
edges_kids h (x ∷ r) = ap (λ (l : List ℕ). x.edge.no ∷ l) (edges_kids h r)

number_at : (h : ℕ) (ls : List (Tree (suc h))) (t : Tree (suc h)) (rs : List (Tree (suc h))) → get_or (map (λ (t : Tree (suc h)). t.no) (ls ++ (t ∷ rs))) (length ls) 0 ≡ t.no
number_at h [] t rs = refl
number_at h (x ∷ ls) t rs = number_at h ls t rs

same_all : (ns ns' : List NodeVal) (h : ℕ) (ts : List (Tree h)) → ((m : ℕ) → 1 ≤ has_all m h ts → (nth ns' m).total ≡ (nth ns m).total) → All (Right ns h) ts → All (Right ns' h) ts
same_all ns ns' h [] e a = tt
same_all ns ns' h (t ∷ ts) e a = (right_same ns ns' h t (λ m u. e m (omega arith)) a.0, same_all ns ns' h ts (λ m u. e m (omega arith)) a.1)

-- ---- a turn

abbrev pub CountCall : List ℕ → List ℕ → ℕ → ℕ → Type 0
CountCall w w' n h = (hd : List ℕ) (ns : List NodeVal) (K : TreeIn ns n h) → Arena w hd ns → CountedIn w' hd ns h K.tree

module _ {w hd : List ℕ} {ns : List NodeVal} {n h : ℕ} (K : TreeIn ns n (suc h)) (a : Arena w hd ns) where
  abbrev T : Tree (suc (suc h))
  T = K.tree

  pub none_yet : Upto w hd ns h K.tree 0
  none_yet = record { done = []; todo = kids (suc h) T; all = refl; many = refl; nodes = ns; arena = a; same = record { long = refl; bodies = λ q u. refl; frees = λ q u v. refl; roots = λ q u v. refl; links = K.links }; others = λ m u. refl; right = tt }

  many_kids : length (kids (suc h) T) ≡ length T.rest + 1
  many_kids = omega (arith, length-map T.rest (λ (x : Item (Tree (suc h))). x.edge))

  pairs_here : length (nth ns n).pairs ≡ length T.rest
  pairs_here = ap (λ (q : ℕ). length (nth ns q).pairs) (sym K.node_is) ∙ ap (λ (b : Body). length b.pairs) K.stands.0 ∙ length-map (numbered (suc h) T.rest) (λ (x : Item ℕ). x.pair) ∙ length-map {B = Item ℕ} T.rest (λ (x : Item (Tree (suc h))). record { pair = x.pair; edge = x.edge.no })

  n_in : n < length ns
  n_in = subst (λ (q : ℕ). q < length ns) K.node_is (K.within T.no (omega (arith, one_self T.no)))

  pub here_known : Within w n × (word_at w n length_word ≡ length K.tree.rest) × (length K.tree.rest ≤ most)
  here_known = (within a n n_in, len_is a n n_in ∙ pairs_here, omega (arith, pairs_here, arena_small ns a n))

  kids_stand : All (Stands ns (suc h)) (kids (suc h) T)
  kids_stand = (K.stands.1, all_kids (suc h) (Stands ns (suc h)) T.rest K.stands.2)

  module _ {w₁ : List ℕ} {i : ℕ} (u : Upto w₁ hd ns h K.tree i) where
    same_edges : (nth u.nodes n).edges ≡ map (λ (t : Tree (suc h)). t.no) (kids (suc h) T)
    same_edges = ap (λ (b : Body). b.edges) (u.same.bodies n refl) ∙ ap (λ (q : ℕ). (nth ns q).edges) (sym K.node_is) ∙ ap (λ (b : Body). b.edges) K.stands.0 ∙ ap (λ (l : List ℕ). T.first.no ∷ l) (edges_kids h T.rest)

    in_now : n < length u.nodes
    in_now = subst (λ (k : ℕ). n < k) (sym u.same.long) n_in

    pub there : Within w₁ n
    there = within u.arena n in_now

    -- the next tree
    record Next (c : ℕ) : Type 0 where
      first : Tree (suc h)
      later : List (Tree (suc h))
      split : u.done ++ (first ∷ later) ≡ kids (suc h) T
      held : TreeIn u.nodes c h
      is : held.tree ≡ first

    in_split : (t : Tree (suc h)) (ts : List (Tree (suc h))) → u.done ++ (t ∷ ts) ≡ kids (suc h) T → (m : ℕ) → has m (suc (suc h)) T ≡ one T.no m + (has_all m (suc h) u.done + (has m (suc h) t + has_all m (suc h) ts))
    in_split t ts z m = in_kids m (suc h) T ∙ ap (λ (l : List (Tree (suc h))). one T.no m + has_all m (suc h) l) (sym z) ∙ ap (λ (k : ℕ). one T.no m + k) (has_append m (suc h) u.done (t ∷ ts))

    next : i < length T.rest + 1 → (c : ℕ) → c ≡ word_at w₁ n (edges_word + i) → Next c
    next l c e = go u.todo u.all
      where
        go : (ts : List (Tree (suc h))) → u.done ++ ts ≡ kids (suc h) T → Next c
        go [] z = absurd (omega (arith, u.many, many_kids, ap length z, length-append u.done []))
        go (t ∷ ts) z =
            let f : word_at w₁ n (edges_word + i) ≡ t.no = edge_is u.arena n in_now i (subst (λ (es : List ℕ). i < length es) (sym same_edges) (omega (arith, l, many_kids, length-map (kids (suc h) T) (λ (t : Tree (suc h)). t.no)))) ∙ ap₂ (λ (es : List ℕ) (j : ℕ). get_or es j 0) (same_edges ∙ ap (map (λ (t : Tree (suc h)). t.no)) (sym z)) (sym u.many) ∙ number_at h u.done t ts in
            record {
              first = t;
              later = ts;
              split = z;
              held = record {
                tree = t;
                node_is = sym (e ∙ f);
                stands = stands_kept ns u.nodes [] [] u.same (suc h) t (λ q. omega (arith, K.once q, in_split t ts z q)) (all_right (suc h) (Stands ns (suc h)) u.done (t ∷ ts) (subst (All (Stands ns (suc h))) (sym z) kids_stand)).0;
                links = u.same.links;
                few = subst (λ (k : ℕ). k ≤ largest_count) (sym u.same.long) K.few;
                once = λ m. omega (arith, K.once m, in_split t ts z m);
                within = λ m v. subst (λ (k : ℕ). m < k) (sym u.same.long) (K.within m (omega (arith, in_split t ts z m)));
              };
              is = refl;
            }

    pub next_tree : i < length K.tree.rest + 1 → (c : ℕ) → c ≡ word_at w₁ n (edges_word + i) → TreeIn u.nodes c h
    next_tree l c e = (next l c e).held

    -- is counted
    pub next_done : i < length K.tree.rest + 1 → (c : ℕ) → c ≡ word_at w₁ n (edges_word + i) → {w₂ : List ℕ} → CountCall w₁ w₂ c h → Upto w₂ hd ns h K.tree (i + 1)
    next_done l c e {w₂} call =
        let N = next l c e in
        let C : CountedIn w₂ hd u.nodes h N.first = subst (CountedIn w₂ hd u.nodes h) N.is (call hd u.nodes N.held u.arena) in
        let t = N.first in
        record {
          done = u.done ++ (t ∷ []);
          todo = N.later;
          all = append_assoc u.done (t ∷ []) N.later ∙ N.split;
          many = length-append u.done (t ∷ []) ∙ ap (λ (k : ℕ). k + 1) u.many;
          nodes = C.nodes;
          arena = C.arena;
          same = kept_trans u.same C.same;
          others = λ m z. let k = has_append m (suc h) u.done (t ∷ []) in C.others m (omega (arith, k)) ∙ u.others m (omega (arith, k));
          right = all_last (suc h) (Right C.nodes (suc h)) u.done t (same_all u.nodes C.nodes (suc h) u.done (λ m v. C.others m (omega (arith, K.once m, in_split t N.later N.split m))) u.right) C.right;
        }

    pub all_done : length K.tree.rest < i → EdgesIn w₁ hd ns h K.tree
    all_done l = go u.todo u.all
      where
        go : (ts : List (Tree (suc h))) → u.done ++ ts ≡ kids (suc h) T → EdgesIn w₁ hd ns h T
        go [] z =
            let e : u.done ≡ kids (suc h) T = sym (append-nil u.done) ∙ z in
            record { nodes = u.nodes; arena = u.arena; same = u.same; others = λ m k. u.others m (ap (has_all m (suc h)) e ∙ k); right = subst (All (Right u.nodes (suc h))) e u.right }
        go (t ∷ ts) z = absurd (omega (arith, u.many, many_kids, ap length z, length-append u.done (t ∷ ts)))

-- ---- a node, by the levels below it

abbrev pub EdgesCall : List ℕ → List ℕ → ℕ → ℕ → Type 0
EdgesCall w w' n h = (hd : List ℕ) (ns : List NodeVal) (K : TreeIn ns n (suc h)) → Arena w hd ns → EdgesIn w' hd ns h K.tree

gaps_right : (ns : List NodeVal) (r : List (Item (Tree 0))) → AllIn (Right ns 0) r
gaps_right ns [] = tt
gaps_right ns (x ∷ r) = (tt, gaps_right ns r)

module _ {w hd : List ℕ} {ns : List NodeVal} {n : ℕ} (a : Arena w hd ns) where
  pub leaf_done : (b : ℕ) → b ≡ 0 → (K : TreeIn ns n b) → {w' : List ℕ} → CountCall w w' n 0 → CountedIn w' hd ns b K.tree
  leaf_done zero e K call = call hd ns K a
  leaf_done (suc h) e K call = absurd (omega arith)

  module _ (K : TreeIn ns n 0) where
    leaf_in : n < length ns
    leaf_in = subst (λ (q : ℕ). q < length ns) K.node_is (K.within K.tree.no (omega (arith, one_self K.tree.no)))

    pub leaf_known : Within w n × (n < length ns)
    leaf_known = (within a n leaf_in, leaf_in)

    -- it has no edges: its count is how many pairs it has
    pub leaf_word : word_at w n length_word ≡ due ns n
    leaf_word =
        let e : (nth ns n).edges ≡ [] = ap (λ (q : ℕ). (nth ns q).edges) (sym K.node_is) ∙ ap (λ (b : Body). b.edges) K.stands.0 in
        let t : totals ns (nth ns n).edges ≡ 0 = ap (totals ns) e in
        omega (arith, len_is a n leaf_in)

    pub leaf_counted : (w' : List ℕ) → Arena w' hd (recount ns n) → CountedIn w' hd ns 0 K.tree
    leaf_counted w' b = node_right 0 K.tree a K.stands K.links K.few K.once K.within tt (gaps_right ns K.tree.rest) w' (subst (λ (q : ℕ). Arena w' hd (recount ns q)) (sym K.node_is) b)

  pub inner_tree : (b : ℕ) → (b ≡ 0 → ⊥) → TreeIn ns n b → TreeIn ns n (suc (b - 1))
  inner_tree zero z K = absurd (z refl)
  inner_tree (suc h) z K = rw (sub-one (suc h)) K

  module _ (h : ℕ) (K : TreeIn ns n (suc h)) {w₁ : List ℕ} (E : EdgesIn w₁ hd ns h K.tree) where
    abbrev M : List NodeVal
    M = E.nodes

    stands_now : Stands E.nodes (suc (suc h)) K.tree
    stands_now = stands_kept ns E.nodes [] [] E.same (suc (suc h)) K.tree (λ q. omega (arith, K.once q)) K.stands

    few_now : length E.nodes ≤ largest_count
    few_now = subst (λ (k : ℕ). k ≤ largest_count) (sym E.same.long) K.few

    within_now : (m : ℕ) → 1 ≤ has m (suc (suc h)) K.tree → m < length E.nodes
    within_now m v = subst (λ (k : ℕ). m < k) (sym E.same.long) (K.within m v)

    rest_right : AllIn (Right E.nodes (suc h)) K.tree.rest
    rest_right = kids_all (suc h) (Right E.nodes (suc h)) K.tree.rest E.right.1

    at_due : Shaped E.nodes n × (due E.nodes n < 18446744073709551616)
    at_due = subst (λ (q : ℕ). Shaped M q × (due M q < 18446744073709551616)) K.node_is (node_due (suc h) K.tree E.arena stands_now E.same.links few_now K.once within_now E.right.0 rest_right)

    at_done : {w₂ : List ℕ} → SetCall w₁ w₂ n → CountedIn w₂ hd ns (suc h) K.tree
    at_done {w₂} call =
        let C = node_right (suc h) K.tree E.arena stands_now E.same.links few_now K.once within_now E.right.0 rest_right w₂ (subst (λ (q : ℕ). Arena w₂ hd (recount E.nodes q)) (sym K.node_is) (call hd E.nodes at_due.0 E.arena)) in
        record { nodes = C.nodes; arena = C.arena; same = kept_trans E.same C.same; others = λ m z. C.others m z ∙ E.others m (omega (arith, in_kids m (suc h) K.tree)); right = C.right }

  pub inner_due : (b : ℕ) → (b ≡ 0 → ⊥) → TreeIn ns n b → {w₁ : List ℕ} → EdgesCall w w₁ n (b - 1) → Has w₁ (λ hd ns. Shaped ns n × (due ns n < 18446744073709551616))
  inner_due zero z K call = absurd (z refl)
  inner_due (suc h) z K call = let E = (rw (sub-one (suc h)) at call) hd ns K a in record { head = hd; nodes = E.nodes; arena = E.arena; holds = at_due h K E }

  pub inner_done : (b : ℕ) → (b ≡ 0 → ⊥) → (K : TreeIn ns n b) → {w₁ w₂ : List ℕ} → EdgesCall w w₁ n (b - 1) → SetCall w₁ w₂ n → CountedIn w₂ hd ns b K.tree
  inner_done zero z K call set = absurd (z refl)
  inner_done (suc h) z K call set = at_done h K ((rw (sub-one (suc h)) at call) hd ns K a) set
