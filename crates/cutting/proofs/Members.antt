-- The nodes of a tree that stands: their edges lead to others of it, and what its pairs and sizes say, each of them says.
-- Assumes nothing.
use Prim.Native.Nat.{ℕ, zero, suc, ◌+◌, ◌≤◌, ◌<◌}
use native.Mathlib.Decide.{ℕ_discrete, dec_lt}
use native.Mathlib.Omega.{arith}
use mathlib.Core.Path.{◌≡◌, refl, sym, ap, ◌∙◌, subst}
use mathlib.Core.Bool.{Bool, true, false, cond}
use mathlib.Core.List.{List, [], ◌∷◌, map}
use lib.Dec.{eqb}
use lib.ListN.{length, get_or, length-map}
use borrow.Author.Tests.{le-leb, lt-leb, eqb-true}
use Rattle.model.specs.Lists.{All, one, times}
use Rattle.model.specs.Layout.{NodeVal, nth}
use Rattle.model.specs.Tree.{Pair, Item, Tree, Ctx, top, under, flat, flats, after, has_in, has, numbers_in, numbers}
use Rattle.model.specs.Words.{kind, root_no}
use Rattle.model.specs.Map.{Below}
use Rattle.model.specs.Sound.{AllIn, Full}
use Rattle.model.specs.Parting.{dropped}
use Rattle.model.proofs.Lists.{one_other, all_left, all_right, times_append}
use Rattle.model.proofs.Sizes.{FullCtx}
use Rattle.store.specs.Links.{Body, body_of}
use Rattle.standing.specs.Standing.{numbered, content, Stands, Way}
use Rattle.standing.proofs.Leads.{one_self}
use Rattle.loading.proofs.Numbers.{numbers_in_lem, numbers_has}
use Rattle.loading.proofs.Parting.{AtLeast}
use Rattle.cutting.specs.Sweep.{reached, goes}

-- in one of two
either : (a b : ℕ) (P : Type 0) → 1 ≤ a + b → (1 ≤ a → P) → (1 ≤ b → P) → P
either a b P u f g = go (dec_lt 0 a)
  where
    go : Dec (0 < a) → P
    go (yes l) = f l
    go (no d) = g (omega arith)

same_of : (n m : ℕ) → 1 ≤ one n m → n ≡ m
same_of n m u = go (ℕ_discrete n m)
  where
    go : Dec (n ≡ m) → n ≡ m
    go (yes e) = e
    go (no d) = absurd (omega (arith, one_other n m d))

module _ (ns : List NodeVal) (q : ℕ) where
  -- ---- edges stay in the tree

  item_in : (h : ℕ) (r : List (Item (Tree (suc h)))) (i : ℕ) → i < length (map (λ (x : Item ℕ). x.edge) (numbered (suc h) r)) → 1 ≤ has_in (has (get_or (map (λ (x : Item ℕ). x.edge) (numbered (suc h) r)) i 0) (suc h)) r
  item_in h [] i l = absurd (omega arith)
  item_in h (x ∷ r) zero l = omega (arith, one_self x.edge.no)
  item_in h (x ∷ r) (suc i) l = omega (arith, item_in h r i (omega arith))

  own_edges : (h : ℕ) (t : Tree (suc h)) → body_of (nth ns q) ≡ content h (root_no h t.first) (numbered h t.rest) → (i : ℕ) → i < length (nth ns q).edges → 1 ≤ has (get_or (nth ns q).edges i 0) (suc h) t
  own_edges zero t b i l = absurd (let e = ap (λ (x : Body). length x.edges) b in omega arith)
  own_edges (suc h) t b i l =
      let e = ap (λ (x : Body). x.edges) b in
      subst (λ (c : ℕ). 1 ≤ has c (suc (suc h)) t) (sym (ap (λ (es : List ℕ). get_or es i 0) e)) (go i (subst (λ (es : List ℕ). i < length es) e l))
    where
      go : (i : ℕ) → i < length (t.first.no ∷ map (λ (x : Item ℕ). x.edge) (numbered (suc h) t.rest)) → 1 ≤ has (get_or (t.first.no ∷ map (λ (x : Item ℕ). x.edge) (numbered (suc h) t.rest)) i 0) (suc (suc h)) t
      go zero l = omega (arith, one_self t.first.no)
      go (suc i) l = omega (arith, item_in h t.rest i (omega arith))

  edges_items : (h : ℕ) → ((t : Tree h) → Stands ns h t → 1 ≤ has q h t → (i : ℕ) → i < length (nth ns q).edges → 1 ≤ has (get_or (nth ns q).edges i 0) h t) → (r : List (Item (Tree h))) → AllIn (Stands ns h) r → 1 ≤ has_in (has q h) r
      → (i : ℕ) → i < length (nth ns q).edges → 1 ≤ has_in (has (get_or (nth ns q).edges i 0) h) r
  edges_items h f [] a u i l = absurd (omega arith)
  edges_items h f (x ∷ r) a u i l = either (has q h x.edge) (has_in (has q h) r) _ u (λ v. omega (arith, f x.edge a.0 v i l)) (λ v. omega (arith, edges_items h f r a.1 v i l))

  pub edges_in : (h : ℕ) (t : Tree h) → Stands ns h t → 1 ≤ has q h t → (i : ℕ) → i < length (nth ns q).edges → 1 ≤ has (get_or (nth ns q).edges i 0) h t
  edges_in zero t s u i l = absurd (omega arith)
  edges_in (suc h) t s u i l =
      either (one t.no q) (has q h t.first + has_in (has q h) t.rest) _ u
      (λ v. own_edges h t (ap (λ (n : ℕ). body_of (nth ns n)) (sym (same_of t.no q v)) ∙ s.0) i l)
      (λ v. either (has q h t.first) (has_in (has q h) t.rest) _ v (λ z. omega (arith, edges_in h t.first s.1 z i l)) (λ z. omega (arith, edges_items h (edges_in h) t.rest s.2 z i l)))

  -- ---- what holds of a tree and of all below each of its nodes, the node q has

  module _ (R : (h : ℕ) → Tree h → Type 0) (first : (h : ℕ) (t : Tree (suc h)) → R (suc h) t → R h t.first) (rest : (h : ℕ) (t : Tree (suc h)) → R (suc h) t → AllIn (R h) t.rest) (P : NodeVal → Type 0)
      (own : (h : ℕ) (t : Tree (suc h)) → R (suc h) t → body_of (nth ns q) ≡ content h (root_no h t.first) (numbered h t.rest) → P (nth ns q)) where
    pub each_item : (h : ℕ) → ((t : Tree h) → Stands ns h t → R h t → 1 ≤ has q h t → P (nth ns q)) → (r : List (Item (Tree h))) → AllIn (Stands ns h) r → AllIn (R h) r → 1 ≤ has_in (has q h) r → P (nth ns q)
    each_item h f [] a b u = absurd (omega arith)
    each_item h f (x ∷ r) a b u = either (has q h x.edge) (has_in (has q h) r) _ u (f x.edge a.0 b.0) (each_item h f r a.1 b.1)

    pub each_node : (h : ℕ) (t : Tree h) → Stands ns h t → R h t → 1 ≤ has q h t → P (nth ns q)
    each_node zero t s r u = absurd (omega arith)
    each_node (suc h) t s r u =
        either (one t.no q) (has q h t.first + has_in (has q h) t.rest) _ u
        (λ v. own h t r (ap (λ (n : ℕ). body_of (nth ns n)) (sym (same_of t.no q v)) ∙ s.0))
        (λ v. either (has q h t.first) (has_in (has q h) t.rest) _ v (each_node h t.first s.1 (first h t r)) (each_item h (each_node h) t.rest s.2 (rest h t r)))

-- ---- keys

module _ (Q : Pair → Type 0) where
  items_all : (h : ℕ) (r : List (Item (Tree h))) → All Q (flats (flat h) r) → AllIn (λ (t : Tree h). All Q (flat h t)) r
  items_all h [] a = tt
  items_all h (x ∷ r) a = (all_left Q (flat h x.edge) (flats (flat h) r) a.1, items_all h r (all_right Q (flat h x.edge) (flats (flat h) r) a.1))

  rest_all : (h : ℕ) (t : Tree (suc h)) → All Q (flat (suc h) t) → AllIn (λ (u : Tree h). All Q (flat h u)) t.rest
  rest_all h t a = items_all h t.rest (all_right Q (flat h t.first) (flats (flat h) t.rest) a)

  pairs_all : (h : ℕ) (r : List (Item (Tree h))) → All Q (flats (flat h) r) → All Q (map (λ (x : Item ℕ). x.pair) (numbered h r))
  pairs_all h [] a = tt
  pairs_all h (x ∷ r) a = (a.0, pairs_all h r (all_right Q (flat h x.edge) (flats (flat h) r) a.1))

  own_pairs : (v : NodeVal) (h : ℕ) (t : Tree (suc h)) → All Q (flat (suc h) t) → body_of v ≡ content h (root_no h t.first) (numbered h t.rest) → All Q v.pairs
  own_pairs v h t a b = subst (All Q) (sym (ap (λ (x : Body). x.pairs) b)) (pairs_all h t.rest (all_right Q (flat h t.first) (flats (flat h) t.rest) a))

kind_live : (h : ℕ) → 1 ≤ kind h
kind_live zero = omega arith
kind_live (suc h) = omega arith

-- ---- who stays and who goes

stays_if : (k : ℕ) (v : NodeVal) → 1 ≤ v.state → Below k v.pairs → goes k v ≡ false
unfolding goes
stays_if k v l b = go (eqb v.state 0) refl v.pairs b
  where
    go : (z : Bool) → eqb v.state 0 ≡ z → (ps : List Pair) → Below k ps → cond z true (reached k ps) ≡ false
    go true e ps b = absurd (omega (arith, eqb-true v.state 0 e))
    go false e [] b = refl
    go false e (p ∷ ps) b = lt-leb k p.key b.0

goes_if : (k : ℕ) (v : NodeVal) → 1 ≤ length v.pairs → AtLeast k v.pairs → goes k v ≡ true
unfolding goes
goes_if k v l b = go (eqb v.state 0) v.pairs l b
  where
    go : (z : Bool) (ps : List Pair) → 1 ≤ length ps → AtLeast k ps → cond z true (reached k ps) ≡ true
    go true ps l b = refl
    go false [] l b = absurd (omega arith)
    go false (p ∷ ps) l b = le-leb k p.key b.0

pub free_goes : (k : ℕ) (v : NodeVal) → v.state ≡ 0 → goes k v ≡ true
unfolding goes
free_goes k v e = rw e refl

-- a node of a tree whose keys are below k stays
pub tree_stays : (k : ℕ) (ns : List NodeVal) (q h : ℕ) (t : Tree h) → Stands ns h t → Below k (flat h t) → 1 ≤ has q h t → goes k (nth ns q) ≡ false
tree_stays k ns q = each_node ns q (λ h t. Below k (flat h t)) (λ h t a. all_left _ (flat h t.first) (flats (flat h) t.rest) a) (λ h t a. rest_all _ h t a) (λ (v : NodeVal). goes k v ≡ false)
    (λ h t a b. stays_if k (nth ns q) (subst (λ (m : ℕ). 1 ≤ m) (sym (ap (λ (x : Body). x.state) b)) (kind_live h)) (own_pairs _ (nth ns q) h t a b))

-- one of a full tree whose keys are k or above goes
module _ (k : ℕ) (ns : List NodeVal) (q : ℕ) where
  abbrev Above : (h : ℕ) → Tree h → Type 0
  Above h t = AtLeast k (flat h t) × Full h t

  both : (h : ℕ) (r : List (Item (Tree h))) → AllIn (λ (t : Tree h). AtLeast k (flat h t)) r → AllIn (Full h) r → AllIn (Above h) r
  both h [] a b = tt
  both h (x ∷ r) a b = ((a.0, b.0), both h r a.1 b.1)

  own_goes : (h : ℕ) (t : Tree (suc h)) → Above (suc h) t → body_of (nth ns q) ≡ content h (root_no h t.first) (numbered h t.rest) → goes k (nth ns q) ≡ true
  own_goes h t a b =
      let n : length (nth ns q).pairs ≡ length t.rest = ap (λ (x : Body). length x.pairs) b ∙ length-map (numbered h t.rest) (λ (x : Item ℕ). x.pair) ∙ length-map {B = Item ℕ} t.rest (λ (x : Item (Tree h)). record { pair = x.pair; edge = root_no h x.edge }) in
      goes_if k (nth ns q) (omega (arith, n, a.1.0)) (own_pairs _ (nth ns q) h t a.0 b)

  items_go : (h : ℕ) (r : List (Item (Tree h))) → AllIn (Stands ns h) r → AtLeast k (flats (flat h) r) → AllIn (Full h) r → 1 ≤ has_in (has q h) r → goes k (nth ns q) ≡ true
  items_go h r s a f u =
      let F : (h : ℕ) (t : Tree (suc h)) → Above (suc h) t → Above h t.first = λ h t x. (all_left _ (flat h t.first) (flats (flat h) t.rest) x.0, x.1.2) in
      let G : (h : ℕ) (t : Tree (suc h)) → Above (suc h) t → AllIn (Above h) t.rest = λ h t x. both h t.rest (rest_all _ h t x.0) x.1.3 in
      each_item ns q Above F G (λ (v : NodeVal). goes k v ≡ true) own_goes h (each_node ns q Above F G (λ (v : NodeVal). goes k v ≡ true) own_goes h) r s (both h r (items_all _ h r a) f) u

  pub way_goes : {h : ℕ} (c : Ctx h) (x : ℕ) → Way ns c x → FullCtx c → AtLeast k (after c) → 1 ≤ times q (dropped c) → goes k (nth ns q) ≡ true
  way_goes top x w f a u = absurd (omega arith)
  way_goes (under {h = h} g c) x w f a u =
      either (has_in (has q h) g.right) (times q (dropped c)) _ (omega (arith, times_append q (numbers_in (numbers h) g.right) (dropped c), numbers_in_lem q (numbers h) (has q h) (numbers_has q h) g.right))
      (items_go h g.right w.2 (all_left _ (flats (flat h) g.right) (after c) a) f.2)
      (way_goes c g.no w.3 f.3 (all_right _ (flats (flat h) g.right) (after c) a))
