-- A place that holds a pair by the words is that of a pair in the tree.
-- Assumes nothing.
use Prim.Native.Nat.{ℕ, zero, suc, ◌<◌}
use native.Mathlib.Nat.{le_of_suc-le-suc}
use native.Mathlib.Omega.{arith}
use mathlib.Core.Path.{◌≡◌, refl, sym, ap, ◌∙◌}
use mathlib.Core.List.{List, [], ◌∷◌, ◌++◌}
use lib.Dec.{lit<}
use lib.ListN.{length}
use Rattle.model.specs.Lists.{All}
use Rattle.model.specs.Layout.{word_at, count_word, state_word, free, NodeVal, nth, none}
use Rattle.model.specs.Tree.{Item, Tree, Ctx, top, under, plug, fill}
use Rattle.model.specs.Range.{open_at}
use Rattle.model.specs.State.{State, At}
use Rattle.model.specs.Words.{Block, blocks_of, blocks, chain_blocks, blocks_in, nodes_in}
use Rattle.model.specs.Promise.{Holds}
use Rattle.model.specs.Cursor.{Stop, Post, posts, PairAt, pair_at}
use Rattle.model.proofs.Lists.{all_append}
use Rattle.model.proofs.Read.{arena_reads}
use Rattle.model.proofs.Held.{held_of, each_node}
use Rattle.model.proofs.Header.{header_is}
use Rattle.model.proofs.Forks.{down_plug, open_length}
use Rattle.model.proofs.Standing.{stands, length_at}
use Rattle.walking.proofs.Posts.{post, posts_of, lows, highs, posts_around, stands_at}

module _ (s : State) where
  -- a node that is not free is in the tree
  abbrev InTree : ℕ → NodeVal → Type 0
  InTree n v = (v.state ≡ free → ⊥) → (h : ℕ) × At s n h

  abbrev Lives : Block → Type 0
  Lives b = InTree b.no b.val

  tree_lives : (h parent i : ℕ) (c : Ctx h) (t : Tree h) → plug c t ≡ s.whole → All Lives (blocks h parent i t)
  tree_lives zero parent i c t q = tt
  tree_lives (suc h) parent i c t q = (
    λ d. (h, record { ctx = c; tree = t; whole = q; number = refl }),
    all_append Lives (blocks h t.no 0 t.first) (blocks_of (blocks h t.no) 1 t.rest) (tree_lives h t.no 0 (under (record { no = t.no; left = []; right = t.rest }) c) t.first q) (go (tree_lives h t.no) [] t.first t.rest 1 q),
  )
    where
      go : ((j : ℕ) (c : Ctx h) (u : Tree h) → plug c u ≡ s.whole → All Lives (blocks h t.no j u)) → (l : List (Item (Tree h))) (e : Tree h) (r : List (Item (Tree h))) (j : ℕ) → plug c (fill t.no l e r) ≡ s.whole → All Lives (blocks_of (blocks h t.no) j r)
      go ih l e [] j q = tt
      go ih l e (x ∷ r) j q =
          let k : List (Item (Tree h)) = record { pair = x.pair; edge = e } ∷ l in
          all_append Lives (blocks h t.no j x.edge) (blocks_of (blocks h t.no) (suc j) r) (ih j (under (record { no = t.no; left = k; right = r }) c) x.edge q) (go ih k x.edge r (suc j) q)

  chain_lives : (ns : List ℕ) → All Lives (chain_blocks ns)
  chain_lives [] = tt
  chain_lives (n ∷ ns) = (λ d. absurd (d refl), chain_lives ns)

  all_live : All Lives (blocks_in s)
  all_live = all_append Lives (blocks s.whole.height none 0 s.whole.root) (chain_blocks s.free) (tree_lives s.whole.height none 0 top s.whole.root refl) (chain_lives s.free)

-- the pair right of an edge
open_pair : {A : Type 0} (i : ℕ) (l : List (Item A)) (e : A) (r : List (Item A)) → i < length r → (x : Item A) × (q : List (Item A)) × ((open_at i l e r).right ≡ x ∷ q)
open_pair i l e [] u = absurd (omega arith)
open_pair zero l e (x ∷ r) u = (x, r, refl)
open_pair (suc i) l e (x ∷ r) u = open_pair i (record { pair = x.pair; edge = e } ∷ l) x.edge r (le_of_suc-le-suc u)

-- a pair's place in the tree, in a node with h levels below it
pub record PlaceAt (s : State) (p : Stop) (h : ℕ) : Type 0 where
  pub ctx : Ctx (suc h)
  pub no : ℕ
  pub left : List (Item (Tree h))
  pub hole : Tree h
  pub item : Item (Tree h)
  pub right : List (Item (Tree h))
  pub whole : plug ctx (fill no left hole (item ∷ right)) ≡ s.whole
  pub node_is : p.node ≡ no
  pub at_is : p.place ≡ length left

pub place_at : {s : State} (p : Stop) {h : ℕ} (a : At s p.node h) → p.place < length a.tree.rest → PlaceAt s p h
place_at {s} p {h} a u =
    let t = a.tree in
    let o = open_at p.place [] t.first t.rest in
    let d = open_pair p.place [] t.first t.rest u in
    record {
      ctx = a.ctx;
      no = t.no;
      left = o.left;
      hole = o.hole;
      item = d.0;
      right = d.1;
      whole = ap (λ r. plug a.ctx (fill t.no o.left o.hole r)) (sym d.2) ∙ (down_plug a.ctx t p.place ∙ a.whole);
      node_is = sym a.number;
      at_is = sym (open_length p.place [] t.first t.rest (omega arith) ∙ omega arith);
    }

module _ {w : List ℕ} {s : State} (o : Holds w s) (p : Stop) (y : PairAt w p) where
  pub live_at : (h : ℕ) × At s p.node h
  live_at =
      let l : p.node < s.size = omega (arith, y.inside, header_is o count_word (lit< tt)) in
      let v = nth (nodes_in s) p.node in
      let H = held_of o.sound in
      let r = arena_reads H.arena p.node (omega (arith, H.many)) in
      each_node o.sound (InTree s) (all_live s) p.node l (λ e. y.used (ap (λ x. word_at x p.node state_word) o.words ∙ (r.state_is ∙ e)))

  pub live_place : PlaceAt s p live_at.0
  live_place = place_at p live_at.1 (omega (arith, y.short, length_at (stands o live_at.1)))

  -- and among the posts
  pub live_post : (a : List Post) × (b : List Post) × (posts s ≡ a ++ record { stop = p; pair = pair_at w p } ∷ b)
  live_post =
      let z = live_place in
      let c = z.ctx in
      let e : ◌≡◌ {A = Stop} (record { node = z.no; place = length z.left }) p = λ i. record { node = sym z.node_is i; place = sym z.at_is i } in
      let k : pair_at w p ≡ z.item.pair = ap (pair_at w) (sym e) ∙ (stands_at o c z.no z.left z.hole z.item z.right z.whole).1 in
      let A = lows c z.no z.left z.hole z.item z.right in
      let B = highs c z.no z.left z.hole z.item z.right in
      let g : post z.no (length z.left) z.item.pair ≡ record { stop = p; pair = pair_at w p } = λ i. record { stop = e i; pair = sym k i } in
      (A, B, ap posts_of (sym z.whole) ∙ (posts_around c z.no z.left z.hole z.item z.right ∙ ap (λ q. A ++ q ∷ B) g))
