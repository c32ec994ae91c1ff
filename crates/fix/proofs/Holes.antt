-- A tree with a hole, in words: the words of the node in the hole, how many nodes are free, and the tree closed again.
-- Assumes nothing.
use Prim.Native.Nat.{ℕ, zero, suc, ◌+◌, pred, ◌≤◌, ◌<◌}
use native.Mathlib.Decide.{dec_lt}
use native.Mathlib.Omega.{arith}
use mathlib.Core.Path.{◌≡◌, refl, ap, ◌∙◌}
use mathlib.Core.List.{List, [], ◌∷◌, map}
use lib.ListN.{length, get_or, length-map}
use Rattle.std.specs.Prelude.{Option, Some, None}
use Rattle.model.specs.Lists.{All, times}
use Rattle.model.specs.Layout.{most, header_size, base, header, word_at, length_word, parent_word, place_word, edges_word, NodeVal, nth}
use Rattle.model.specs.Tree.{Item, Tree, Ctx, top, under, plug, fill_first, fill_rest}
use Rattle.model.specs.Words.{root_no}
use Rattle.model.specs.Remove.{pop, pop_by}
use Rattle.model.proofs.Arena.{arena_length, arena_header}
use Rattle.model.proofs.Lists.{all_once, all_map, times_self}
use Rattle.node.specs.declared.NodeNo.{NodeNo}
use Rattle.node.specs.declared.Place.{Place}
use Rattle.node.specs.Reading.{Within, ascent_of}
use Rattle.node.proofs.Reading.{within, len_is, parent_is, place_is, edge_is, ascent_root, ascent_edge}
use Rattle.store.specs.Links.{link_of}
use Rattle.standing.specs.Kept.{Child}
use Rattle.standing.specs.Standing.{numbered, root_of}
use Rattle.standing.proofs.Leads.{one_self, link_parent, link_place}
use Rattle.standing.proofs.Scenes.{close}
use Rattle.standing.proofs.Heads.{plug_root, plug_top}
use Rattle.shrinking.proofs.Items.{body_parts, edge_in, column_long, there}
use Rattle.shrinking.proofs.Steps.{content_pairs}
use Rattle.standing.specs.Heads.{Rest, head_words, top_of, HoleBy, ClosedBy}

-- ---- a whole tree again

pub closed_in : {P : List NodeVal → Type 0} {w : List ℕ} {g : Rest} {h : ℕ} (c : Ctx h) (t : Tree h) (free : List ℕ) → HoleBy P w g c t free → ClosedBy P w g (record { whole = plug c t; free = free })
closed_in c t free H = record { nodes = H.nodes; arena = rw (plug_root c t, plug_top c t) H.arena; stand = close c t free H.stand; many = H.many; told = H.told }

-- a root that has pairs, or is a leaf, stays
pub pop_keeps : (h : ℕ) (t : Tree (suc h)) (free : List ℕ) → 1 ≤ length t.rest → pop h t free ≡ record { whole = record { height = suc h; root = t }; free = free }
pop_keeps zero t free l = refl
pop_keeps (suc h) t free l = go t.rest refl l
  where
    go : (r : List (Item (Tree (suc h)))) → t.rest ≡ r → 1 ≤ length r → pop_by h t free r ≡ record { whole = record { height = suc (suc h); root = t }; free = free }
    go [] e l = absurd (omega arith)
    go (x ∷ r) e l = refl

-- ---- numbers below n, none of them twice, and one more: fewer than n

few_free : (n : ℕ) (l : List ℕ) → All (λ (x : ℕ). x < n) l → ((i : ℕ) → times i l ≤ 1) → (x : ℕ) → x < n → times x l ≡ 0 → length l < n
few_free n [] a o x u z = omega arith
few_free n (y ∷ l) a o x u z =
    let i = few_free n l a.1 (λ i. omega (arith, o i)) y a.0 (omega (arith, o y, one_self y)) in
    go i (dec_lt (suc (length l)) n)
  where
    go : length l < n → Dec (suc (length l) < n) → suc (length l) < n
    go i (yes d) = d
    go i (no d) = absurd (omega (arith, all_once n (y ∷ l) a o (omega arith) x u))

-- ---- header words

module _ {P : List NodeVal → Type 0} {w : List ℕ} {g : Rest} {h : ℕ} (c : Ctx h) (t : Tree h) (free : List ℕ) (H : HoleBy P w g c t free) where
  pub hole_header : (i : ℕ) → i < header_size → header w i ≡ get_or (head_words g (root_of c (root_no h t)) (pred (top_of c)) free) i 0
  hole_header i l = arena_header H.arena i l

  pub hole_long : length w ≡ base g.size
  hole_long = arena_length H.arena ∙ ap base H.many

-- ---- the node in the hole

-- where it hangs
abbrev pub hangs : {h : ℕ} → Ctx h → Option (NodeNo × Place)
hangs top = None
hangs (under f c) = Some (record { 0 = f.no }, record { 0 = length f.left })

module _ {P : List NodeVal → Type 0} {w : List ℕ} {g : Rest} {h : ℕ} (c : Ctx (suc h)) (t : Tree (suc h)) (free : List ℕ) (H : HoleBy P w g c t free) where
  node_in : t.no < length H.nodes
  node_in = H.stand.within t.no (omega (arith, one_self t.no))

  pub node_within : Within w t.no
  node_within = within H.arena t.no node_in

  pub node_long : word_at w t.no length_word ≡ length t.rest
  node_long =
      len_is H.arena t.no node_in
      ∙ (content_pairs H.nodes H.stand.links t.no (root_no h t.first) (numbered h t.rest) node_in h H.stand.tree.0 ∙ length-map t.rest _)

  pub node_most : length t.rest ≤ most
  node_most = omega (arith, node_long, len_is H.arena t.no node_in, (H.arena.small t.no node_in).pairs_fit)

  pub free_few : length free < length H.nodes
  free_few =
      few_free (length H.nodes) free (all_map _ _ (λ (x : ℕ) (u : 1 ≤ times x free). H.stand.within x (omega arith)) free (times_self free)) (λ i. omega (arith, H.stand.once i))
      t.no node_in (omega (arith, H.stand.once t.no, one_self t.no))

this_edge : (n : ℕ) (L : List (Item ℕ)) (x : ℕ) (R : List (Item ℕ)) → get_or (fill_first L x ∷ map edge_in (fill_rest L x R)) (length L) 0 ≡ x
this_edge n [] x R = refl
this_edge n (z ∷ L) x R = there n L z.edge edge_in (record { pair = z.pair; edge = x }) R 0

-- ---- its parent

module _ {P : List NodeVal → Type 0} {w : List ℕ} {g : Rest} {h : ℕ} (n : ℕ) (l r : List (Item (Tree (suc h)))) (c : Ctx (suc (suc h))) (t : Tree (suc h)) (free : List ℕ) (H : HoleBy P w g (under (record { no = n; left = l; right = r }) c) t free) where
  abbrev ns : List NodeVal
  ns = H.nodes

  abbrev Ls : List (Item ℕ)
  Ls = numbered (suc h) l

  abbrev Rs : List (Item ℕ)
  Rs = numbered (suc h) r

  i_is : length Ls ≡ length l
  i_is = length-map l _

  parent_in : n < length ns
  parent_in = H.stand.within n (omega (arith, one_self n))

  edges_are : (nth ns n).edges ≡ fill_first Ls t.no ∷ map edge_in (fill_rest Ls t.no Rs)
  edges_are = (body_parts (nth ns n) _ H.stand.way.0).2

  edges_long : length (nth ns n).edges ≡ suc (length l + length r)
  edges_long = ap length edges_are ∙ (let j : length Rs ≡ length r = length-map r _ in omega (arith, column_long n Ls t.no edge_in Rs, i_is))

  hung : link_of (nth ns t.no) ≡ record { parent = n; place = length l }
  hung =
      let e : get_or (nth ns n).edges (length l) 0 ≡ t.no = rw (edges_are, ← i_is) (this_edge n Ls t.no Rs) in
      let k : Child ns n (length l) (get_or (nth ns n).edges (length l) 0) = H.stand.links n (length l) (omega (arith, edges_long)) in
      (rw e at k).link

  pub parent_within : Within w n
  parent_within = within H.arena n parent_in

  pub place_most : length l ≤ most
  place_most = omega (arith, edges_long, (H.arena.small n parent_in).edges_fit)

  pub parent_edge : (i : ℕ) → i ≤ length l + length r → word_at w n (edges_word + i) ≡ get_or (fill_first Ls t.no ∷ map edge_in (fill_rest Ls t.no Rs)) i 0
  parent_edge i o = edge_is H.arena n parent_in i (omega (arith, edges_long)) ∙ ap (λ (es : List ℕ). get_or es i 0) edges_are

  pub ascent_under : ascent_of (word_at w t.no parent_word) (word_at w t.no place_word) ≡ Some (record { 0 = n }, record { 0 = length l })
  ascent_under =
      let o = node_in (under (record { no = n; left = l; right = r }) c) t free H in
      rw (parent_is H.arena t.no o, place_is H.arena t.no o, link_parent hung, link_place hung) (ascent_edge n (length l) (λ e. omega (arith, parent_in, H.stand.few)))

  -- the edge that leads to it
  pub own_edge : word_at w n (edges_word + length l) ≡ t.no
  own_edge = parent_edge (length l) (omega arith) ∙ rw (← i_is) (this_edge n Ls t.no Rs)

-- its left sibling and its right one
pub left_sibling : {P : List NodeVal → Type 0} {w : List ℕ} {g : Rest} {h : ℕ} (n : ℕ) (x : Item (Tree (suc h))) (l r : List (Item (Tree (suc h)))) (c : Ctx (suc (suc h))) (t : Tree (suc h)) (free : List ℕ) → HoleBy P w g (under (record { no = n; left = x ∷ l; right = r }) c) t free
    → word_at w n (edges_word + length l) ≡ x.edge.no
left_sibling {h = h} n x l r c t free H =
    parent_edge n (x ∷ l) r c t free H (length l) (omega arith)
    ∙ (let i : length (numbered (suc h) l) ≡ length l = length-map l _ in rw (← i) (this_edge n (numbered (suc h) l) x.edge.no (record { pair = x.pair; edge = t.no } ∷ numbered (suc h) r)))

pub right_sibling : {P : List NodeVal → Type 0} {w : List ℕ} {g : Rest} {h : ℕ} (n : ℕ) (x : Item (Tree (suc h))) (r : List (Item (Tree (suc h)))) (c : Ctx (suc (suc h))) (t : Tree (suc h)) (free : List ℕ) → HoleBy P w g (under (record { no = n; left = []; right = x ∷ r }) c) t free
    → word_at w n (edges_word + 1) ≡ x.edge.no
right_sibling n x r c t free H = parent_edge n [] (x ∷ r) c t free H 1 (omega arith)

pub ascent_is : {P : List NodeVal → Type 0} {w : List ℕ} {g : Rest} {h : ℕ} (c : Ctx (suc h)) (t : Tree (suc h)) (free : List ℕ) → HoleBy P w g c t free → ascent_of (word_at w t.no parent_word) (word_at w t.no place_word) ≡ hangs c
ascent_is top t free H =
    let o = node_in top t free H in
    rw (parent_is H.arena t.no o) (ascent_root (nth H.nodes t.no).parent _ (link_parent H.stand.root))
ascent_is (under f c) t free H = ascent_under f.no f.left f.right c t free H
