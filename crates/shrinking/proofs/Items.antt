-- What the nodes of a removal's steps hold: lists of items around a hole, cut and joined.
-- Assumes nothing.
use Prim.Native.Nat.{ℕ, zero, suc, ◌+◌, ◌<◌}
use native.Mathlib.Nat.{not-suc-le-zero}
use native.Mathlib.Omega.{arith}
use mathlib.Core.Path.{◌≡◌, refl, ap, ◌∙◌, sym}
use mathlib.Core.List.{List, [], ◌∷◌, ◌++◌, map, tail, map-append}
use lib.ListN.{length, take, drop, get_or, set, length-map}
use lib.Seq.{take_at, drop_at, set_at}
use Rattle.model.specs.Tree.{Pair, Item, fill_rest}
use Rattle.model.specs.Layout.{NodeVal}
use Rattle.model.specs.Words.{kind}
use Rattle.model.specs.Insert.{pair_of, edge_of}
use Rattle.model.proofs.Plug.{fill_rest_lem, length_fill}
use Rattle.slices.specs.Words.{remove_at}
use Rattle.slices.proofs.Laws.{map_take, map_drop}
use Rattle.node.specs.Reading.{pair_at}
use Rattle.store.specs.Links.{Body, body_of}
use Rattle.standing.specs.Standing.{edges_in, content}

pub body_parts : (v : NodeVal) (b : Body) → body_of v ≡ b → (v.state ≡ b.state) × (v.pairs ≡ b.pairs) × (v.edges ≡ b.edges)
body_parts v b e = (ap (λ (t : Body). t.state) e, ap (λ (t : Body). t.pairs) e, ap (λ (t : Body). t.edges) e)

abbrev pub pair_in : Item ℕ → Pair
pair_in x = x.pair

abbrev pub edge_in : Item ℕ → ℕ
edge_in x = x.edge

removed_at : {B : Type 0} (a : List B) (y : B) (r : List B) (i : ℕ) → length a ≡ i → remove_at (a ++ (y ∷ r)) i ≡ a ++ r
unfolding remove_at
removed_at a y r i e = rw (take_at a (y ∷ r) i e, drop_at a (y ∷ r) i e) refl

get_d_here : {B : Type 0} (a : List B) (y : B) (r : List B) (i : ℕ) (d : B) → length a ≡ i → get_or (a ++ (y ∷ r)) i d ≡ y
get_d_here [] y r i d e = rw (← e) refl
get_d_here (x ∷ a) y r zero d e = absurd (omega arith)
get_d_here (x ∷ a) y r (suc i) d e = get_d_here a y r i d (omega arith)

-- ---- a node's items: L, a hole with x in it, and then y and R
module _ {A : Type 0} (n : ℕ) (L : List (Item A)) (x : A) where
  -- a column of them
  pub column : {B : Type 0} (g : Item A → B) (R : List (Item A)) → map g (fill_rest L x R) ≡ map g (fill_rest L x []) ++ map g R
  column g R = ap (map g) (fill_rest_lem n L x R) ∙ map-append g (fill_rest L x []) R

  long : {B : Type 0} (g : Item A → B) → length (map g (fill_rest L x [])) ≡ length L
  long g = length-map (fill_rest L x []) g ∙ length_fill n L x [] ∙ omega arith

  pub column_long : {B : Type 0} (g : Item A → B) (R : List (Item A)) → length (map g (fill_rest L x R)) ≡ length L + length R
  column_long g R = length-map (fill_rest L x R) g ∙ length_fill n L x R

  -- the item behind the hole taken out, its column read, its column changed
  pub gone : {B : Type 0} (g : Item A → B) (y : Item A) (R : List (Item A)) → remove_at (map g (fill_rest L x (y ∷ R))) (length L) ≡ map g (fill_rest L x R)
  gone g y R = rw (column g (y ∷ R)) (removed_at (map g (fill_rest L x [])) (g y) (map g R) (length L) (long g)) ∙ sym (column g R)

  pub there : {B : Type 0} (g : Item A → B) (y : Item A) (R : List (Item A)) (d : B) → get_or (map g (fill_rest L x (y ∷ R))) (length L) d ≡ g y
  there g y R d = rw (column g (y ∷ R)) (get_d_here (map g (fill_rest L x [])) (g y) (map g R) (length L) d (long g))

  pub swapped : {B : Type 0} (g : Item A → B) (y z : Item A) (R : List (Item A)) → set (map g (fill_rest L x (y ∷ R))) (length L) (g z) ≡ map g (fill_rest L x (z ∷ R))
  swapped g y z R = rw (column g (y ∷ R)) (set_at (map g (fill_rest L x [])) (g y) (map g R) (g z) (length L) (long g)) ∙ sym (column g (z ∷ R))

  pub alike : {B : Type 0} (g : Item A → B) (y z : Item A) (R : List (Item A)) → g y ≡ g z → map g (fill_rest L x (y ∷ R)) ≡ map g (fill_rest L x (z ∷ R))
  alike {B = B} g y z R e = column g (y ∷ R) ∙ ap (λ (t : B). map g (fill_rest L x []) ++ (t ∷ map g R)) e ∙ sym (column g (z ∷ R))

-- ---- two children's lists

module _ {A : Type 0} (g : A → ℕ) where
  abbrev num : Item A → Item ℕ
  num x = record { pair = x.pair; edge = g x.edge }

  pub num_edge : (e : A) (l : List (Item A)) → g (edge_of e l) ≡ edge_of (g e) (map num l)
  num_edge e [] = refl
  num_edge e (x ∷ l) = refl

  pub between : (m : ℕ) (J : List (Item A)) (p : Pair) → m < length J → pair_at (map pair_in (map num J)) m ≡ pair_of p (drop m J)
  between m [] p h = absurd (not-suc-le-zero h)
  between zero (x ∷ J) p h = refl
  between (suc m) (x ∷ J) p h = between m J p (omega arith)

pub map_tail : {A B : Type 0} (g : A → B) (l : List A) → map g (tail l) ≡ tail (map g l)
map_tail g [] = refl
map_tail g (x ∷ l) = refl

pub tail_drop : {A : Type 0} (i : ℕ) (l : List A) → tail (drop i l) ≡ drop (suc i) l
tail_drop zero [] = refl
tail_drop zero (x ∷ l) = refl
tail_drop (suc i) [] = refl
tail_drop (suc i) (x ∷ l) = tail_drop i l

pub cut_edges : (e : ℕ) (m : ℕ) (J : List (Item ℕ)) → m < length J → drop m (map edge_in J) ≡ edge_of e (drop m J) ∷ map edge_in (tail (drop m J))
cut_edges e m [] h = absurd (not-suc-le-zero h)
cut_edges e zero (x ∷ J) h = refl
cut_edges e (suc m) (x ∷ J) h = cut_edges e m J (omega arith)

-- ---- the bodies of the two sides of a cut, one law for a leaf and an internal node

pub low_content : (m k e : ℕ) (s : List (Item ℕ)) → record { state = kind k; pairs = take m (map pair_in s); edges = take (suc m) (edges_in k (e ∷ map edge_in s)) } ≡ content k e (take m s)
low_content m zero e s = rw (map_take pair_in m s) refl
low_content m (suc k) e s = rw (map_take pair_in m s, map_take edge_in m s) refl

pub high_content : (m k e : ℕ) (s : List (Item ℕ)) → m < length s → record { state = kind k; pairs = drop (suc m) (map pair_in s); edges = drop (suc m) (edges_in k (e ∷ map edge_in s)) } ≡ content k (edge_of e (drop m s)) (tail (drop m s))
high_content m zero e s z = rw (tail_drop m s, map_drop pair_in (suc m) s) refl
high_content m (suc k) e s z = rw (cut_edges e m s z) (rw (tail_drop m s, map_drop pair_in (suc m) s) refl)
