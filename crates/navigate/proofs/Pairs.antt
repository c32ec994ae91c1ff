-- A pair's place: the words that hold the pair, and the place where a search or a step ends.
-- Assumes nothing.
use Rattle.std.proofs.Common.{Some, ℕ, suc, ◌+◌, ◌≤◌, ◌<◌, arith, ◌≡◌, refl, sym, ap, ◌∙◌, subst, List, ◌∷◌, map, length, get_or}
use Rattle.model.specs.Layout.{most, base, node_size, word_at, keys_word, values_word, key_of, val_of}
use Rattle.model.specs.Tree.{Pair, Item, Tree, Ctx, fill}
use Rattle.model.specs.Search.{Spot, at, gap, search}
use Rattle.model.specs.Words.{pairs}
use Rattle.model.specs.State.{State}
use Rattle.model.specs.Sound.{Sound}
use Rattle.model.specs.Promise.{Holds}
use Rattle.model.proofs.Plug.{length_fill}
use Rattle.model.proofs.Descent.{Sought, search_right}
use Rattle.model.proofs.Standing.{At, stands, short_at, key_at, value_at, fill_at}
use Rattle.search.specs.declared.Handle.{Handle}
use Rattle.search.specs.declared.SearchResult.TheVariants.{Found}
use Rattle.search.specs.Results.{handle, spotted}
pub use Rattle.navigate.specs.Places.{InTree}
use Rattle.navigate.specs.Places.{KvAt, stepped}

module _ {s : State} (d : Handle) (y : KvAt s d) where
  abbrev pub node : Tree (suc d.height)
  node = fill y.no y.left y.hole (y.item ∷ y.right)

  abbrev pub kv_at_node : At s d.node.0 d.height
  kv_at_node = record { ctx = y.ctx; tree = node; whole = y.whole; number = sym y.node_is }

  pub kv_length : length node.rest ≡ d.at.0 + 1 + length y.right
  kv_length = length_fill y.no y.left y.hole (y.item ∷ y.right) ∙ omega (arith, y.at_is)

  pub kv_inside : d.at.0 < length node.rest
  kv_inside = omega (arith, kv_length)

  module _ {w : List ℕ} (o : Holds w s) where
    pub kv_within : (base d.node.0 + node_size ≤ length w) × (d.at.0 < most)
    kv_within = let a = stands o kv_at_node in (a.within, omega (arith, kv_inside, short_at a))

    here : (f : Pair → ℕ) → get_or (map f (pairs node.rest)) d.at.0 0 ≡ f y.item.pair
    here f = ap (λ (i : ℕ). get_or (map f (pairs node.rest)) i 0) (let z : d.at.0 ≡ length y.left + 0 = omega (arith, y.at_is) in z) ∙ fill_at f y.left y.hole (y.item ∷ y.right) 0

    pub kv_key : word_at w d.node.0 (keys_word + d.at.0) ≡ y.item.pair.key
    kv_key = key_at (stands o kv_at_node) d.at.0 kv_within.1 ∙ here key_of

    pub kv_val : word_at w d.node.0 (values_word + d.at.0) ≡ y.item.pair.val
    kv_val = value_at (stands o kv_at_node) d.at.0 kv_within.1 ∙ here val_of

-- ---- the place of a spot that is a pair

pub record Placed (s : State) (p : Spot) (d : Handle) : Type 0 where
  pub kv : KvAt s d
  pub same : p ≡ at kv.ctx kv.no kv.left kv.hole kv.item kv.right

placed : {s : State} {h : ℕ} (c : Ctx (suc h)) (n : ℕ) (l : List (Item (Tree h))) (e : Tree h) (x : Item (Tree h)) (r : List (Item (Tree h)))
    → InTree s.whole (at c n l e x r) → (d : Handle) → d ≡ handle n h (length l) → Placed s (at c n l e x r) d
placed {s} c n l e x r w d q = subst (Placed s (at c n l e x r)) (sym q) (record { kv = record { ctx = c; no = n; left = l; hole = e; item = x; right = r; whole = w; node_is = refl; at_is = refl }; same = refl })

pub found_placed : {s : State} (p : Spot) (d : Handle) → Found d ≡ spotted p → InTree s.whole p → Placed s p d
found_placed (gap c) d e w = let z : ◌≡◌ {A = ℕ} 0 1 = cc in absurd (omega arith)
found_placed (at c n l e x r) d q w = placed c n l e x r w d cc

pub step_placed : {s : State} (p : Spot) (d : Handle) → Some d ≡ stepped p → InTree s.whole p → Placed s p d
step_placed (gap c) d e w = let z : ◌≡◌ {A = ℕ} 0 1 = cc in absurd (omega arith)
step_placed (at c n l e x r) d q w = placed c n l e x r w d cc

-- a search ends in the tree
pub search_placed : (k : ℕ) {s : State} → Sound s → (d : Handle) → Found d ≡ spotted (search k s.whole) → Placed s (search k s.whole) d
search_placed k {s} o d e = found_placed (search k s.whole) d e (go (search k s.whole) (search_right k s.whole o.rising))
  where
    go : (p : Spot) → Sought k s.whole p → InTree s.whole p
    go (gap c) y = tt
    go (at c n l e x r) y = y.0
