-- Down the right border of a load, in words: the last child and its left neighbour, what the move asks, and what the words are after it.
-- Assumes nothing.
use Prim.Native.Nat.{ℕ, zero, suc, ◌+◌, ◌-◌, pred, ◌≤◌, ◌<◌}
use native.Mathlib.Numerals.{sub-one}
use native.Mathlib.Omega.{arith}
use mathlib.Core.Path.{◌≡◌, refl, ap, ◌∙◌, sym, subst}
use mathlib.Core.List.{List, [], ◌∷◌}
use lib.ListN.{length}
use Rattle.model.specs.Layout.{least, most, base, header, root_word, height_word, word_at, length_word, edges_word, NodeVal, nth, Arena}
use Rattle.model.specs.Tree.{Item, Node, Tree, Frame, top, under, Whole, fill, Twin}
use Rattle.model.specs.Insert.{left}
use Rattle.model.specs.Remove.{staying, steal}
use Rattle.model.specs.Sound.{AllIn}
use Rattle.model.proofs.Plug.{length_fill}
use Rattle.model.proofs.Balance.{steal_place}
use Rattle.model.specs.Sizes.{RootLen, LastKids}
use Rattle.node.specs.Reading.{Within, Has}
use Rattle.balance.specs.Moves.{move_nodes, StealReady}
use Rattle.standing.specs.Standing.{Hole, Beside}
use Rattle.standing.specs.Heads.{Rest, HoleBy, ClosedBy, Uncounted}
use Rattle.standing.proofs.Scenes.{zoom_in}
use Rattle.shrinking.proofs.Steps.{left_long, lends_left, move_long, move_step, beside_high, hole_high}
use Rattle.fix.proofs.Holes.{closed_in, hole_header, hole_long, node_within, node_long, node_most, left_sibling, own_edge}
use Rattle.model.specs.Load.{Bordering, short, lent, lend_last, plenty_of, plenty_down}
use Rattle.loading.specs.Shapes.{Perfect, Plenty, RootPlenty}
use Rattle.loading.proofs.Stocking.{Lent, lend_last_lem}
use Rattle.loading.proofs.Bridges.{lend_none}
use Rattle.appending.specs.Stocks.{Some, Stocks, StocksIn, Pushed}

-- ---- the last edge

record LendAt {A : Type 0} (P Q : Node A → Type 0) (n : ℕ) (l : List (Item (Node A))) (e : Node A) (r : List (Item (Node A))) : Type 0 where
  item : Item (Node A)
  lows : List (Item (Node A))
  child : Node A
  lent_is : lend_last n l e r ≡ lend_last n (item ∷ lows) child []
  filled : fill n l e r ≡ fill n (item ∷ lows) child []
  left_has : P item.edge
  lows_have : AllIn P lows
  child_has : Q child

lend_at : {A : Type 0} (P Q : Node A → Type 0) (n : ℕ) (l : List (Item (Node A))) (e : Node A) (r : List (Item (Node A))) → AllIn P l → LastKids P Q e r → 1 ≤ length l + length r → LendAt P Q n l e r
lend_at P Q n [] e [] a k o = absurd (omega arith)
lend_at P Q n (x ∷ l) e [] a k o = record { item = x; lows = l; child = e; lent_is = refl; filled = refl; left_has = a.0; lows_have = a.1; child_has = k }
lend_at P Q n [] e (x ∷ r) a k o =
    let i = lend_at P Q n (record { pair = x.pair; edge = e } ∷ []) x.edge r (k.0, a) k.1 (omega arith) in
    record { item = i.item; lows = i.lows; child = i.child; lent_is = i.lent_is; filled = i.filled; left_has = i.left_has; lows_have = i.lows_have; child_has = i.child_has }
lend_at P Q n (y ∷ l) e (x ∷ r) a k o =
    let i = lend_at P Q n (record { pair = x.pair; edge = e } ∷ y ∷ l) x.edge r (k.0, a) k.1 (omega arith) in
    record { item = i.item; lows = i.lows; child = i.child; lent_is = i.lent_is; filled = i.filled; left_has = i.left_has; lows_have = i.lows_have; child_has = i.child_has }

some_of : (h n : ℕ) → 1 ≤ n → Some h n
some_of zero n l = tt
some_of (suc h) n l = l

-- what the move is known to do
abbrev pub StealCall : List ℕ → List ℕ → ℕ → ℕ → ℕ → ℕ → ℕ → Type 0
StealCall w w' p i l r k = (h : List ℕ) (ns : List NodeVal) → StealReady ns p i l r l r k → Arena w h ns → Arena w' h (move_nodes ns p i l r (length (nth ns l).pairs - k))

-- by other names for the same numbers
steal_moved : (ns : List NodeVal) (p p' i i' l l' r r' k : ℕ) → p ≡ p' → i ≡ i' → l ≡ l' → r ≡ r' → StealReady ns p i l r l r k → StealReady ns p' i' l' r' l' r' k
steal_moved ns p p' i i' l l' r r' k ep ei el er s = rw (ep, ei, el, er) at s

arena_moved : {w hd : List ℕ} (ns : List NodeVal) (p p' i i' l l' r r' k : ℕ) → p ≡ p' → i ≡ i' → l ≡ l' → r ≡ r' → (s : ℕ) → length (nth ns l).pairs - k ≡ s → Arena w hd (move_nodes ns p' i' l' r' (length (nth ns l').pairs - k)) → Arena w hd (move_nodes ns p i l r s)
arena_moved ns p p' i i' l l' r r' k ep ei el er s es a = rw es at (rw (← ep, ← ei, ← el, ← er) at a)

module _ {w : List ℕ} {g : Rest} {node h : ℕ} {t : Whole} {free : List ℕ} (x : Stocks w g node (suc h) t free) where
  pub stock_known : Within w node × (word_at w node length_word ≡ length x.tree.rest) × (1 ≤ length x.tree.rest) × (length x.tree.rest ≤ most)
  stock_known = (rw x.node_is at (node_within x.way x.tree free x.held), rw x.node_is at (node_long x.way x.tree free x.held), x.some, node_most x.way x.tree free x.held)

  abbrev L : LendAt (Perfect (suc h)) (Plenty (suc h)) x.tree.no [] x.tree.first x.tree.rest
  L = lend_at (Perfect (suc h)) (Plenty (suc h)) x.tree.no [] x.tree.first x.tree.rest tt x.plenty (omega (arith, x.some))

  abbrev f : Frame (Tree (suc h))
  f = record { no = x.tree.no; left = L.item ∷ L.lows; right = [] }

  abbrev H : HoleBy Uncounted w g (under f x.way) L.child free
  H = record { nodes = x.held.nodes; arena = x.held.arena; stand = zoom_in f x.way L.child free (subst (λ (v : Tree (suc (suc h))). Hole x.held.nodes x.way v free) L.filled x.held.stand); many = x.held.many; told = tt }

  count_is : length x.tree.rest ≡ suc (length L.lows)
  count_is = ap (λ (v : Tree (suc (suc h))). length v.rest) L.filled ∙ length_fill x.tree.no (L.item ∷ L.lows) L.child [] ∙ omega arith

  abbrev tw : Twin (Tree (suc h))
  tw = record { left = L.item.edge; pair = L.item.pair; right = L.child }

  -- where the stocking goes on: what a node of the frame makes of it
  going : plenty_down h (under (lend_last x.tree.no (L.item ∷ L.lows) L.child []).frame x.way) (lend_last x.tree.no (L.item ∷ L.lows) L.child []).child ≡ t
  going = ap (λ (b : Bordering (Tree h)). plenty_down h (under b.frame x.way) b.child) (sym L.lent_is) ∙ x.same

  lends : Lent (Perfect h) (Plenty h) x.tree.no (L.item ∷ L.lows) L.child [] (lend_last x.tree.no (L.item ∷ L.lows) L.child [])
  lends = lend_last_lem (Perfect h) (Plenty h) x.tree.no (L.item ∷ L.lows) L.child [] (L.left_has, L.lows_have) L.child_has (omega arith)

  -- the two neighbours
  T : Beside x.held.nodes x.way x.tree.no L.lows tw [] free
  T = beside_high x.way x.tree.no L.lows tw [] free H.stand

  -- the code's names for them
  module _ (i n : ℕ) (en : n ≡ length x.tree.rest) (ei : i ≡ n - 1) (a b : ℕ) (ea : a ≡ word_at w node (edges_word + i)) (eb : b ≡ word_at w node (edges_word + n)) where
    child_is : L.child.no ≡ b
    child_is =
        let kn : suc (length L.lows) ≡ n = omega (arith, count_is) in
        sym (rw (← kn, ← x.node_is) at eb ∙ own_edge x.tree.no (L.item ∷ L.lows) [] x.way L.child free H)

    place_is : length L.lows ≡ i
    place_is = omega (arith, count_is)

    left_is : L.item.edge.no ≡ a
    left_is = sym (rw (← place_is, ← x.node_is) at ea ∙ left_sibling x.tree.no L.item L.lows [] x.way L.child free H)

    pub child_within : Within w b
    child_within = rw child_is at (node_within (under f x.way) L.child free H)

    child_long : word_at w b length_word ≡ length L.child.rest
    child_long = subst (λ (i : ℕ). word_at w i length_word ≡ length L.child.rest) child_is (node_long (under f x.way) L.child free H)

    -- it has 5 or more
    pub child_stays : least ≤ word_at w b length_word → Stocks w g b h t free
    child_stays l =
        let e = lend_none x.tree.no L.item L.lows L.child (omega (arith, child_long)) in
        record {
          way = under f x.way;
          tree = L.child;
          held = H;
          node_is = child_is;
          some = some_of h (length L.child.rest) (omega (arith, child_long));
          plenty = L.child_has.1;
          same = ap (λ (b : Bordering (Tree h)). plenty_down h (under b.frame x.way) b.child) (sym e) ∙ going;
        }

    module _ (k : ℕ) (few : word_at w b length_word < least) (ek : k ≡ least - word_at w b length_word) where
      lender : k ≤ length L.item.edge.rest
      lender = omega (arith, L.left_has.0)

      room : length L.child.rest + k ≤ most
      room = omega (arith, child_long)

      ready : StealReady x.held.nodes node i a b a b k
      ready = steal_moved x.held.nodes x.tree.no node (length L.lows) i L.item.edge.no a L.child.no b k x.node_is place_is left_is child_is (lends_left x.way x.tree.no L.lows tw [] free T k (omega arith) lender room)

      pub child_asks : Has w (λ h ns. StealReady ns node i a b a b k)
      child_asks = record { head = _; nodes = x.held.nodes; arena = x.held.arena; holds = ready }

      pub child_moved : {w' : List ℕ} → StealCall w w' node i a b k → Stocks w' g b h t free
      child_moved {w'} call =
          let v = steal left k tw in
          let place = steal_place k tw left lender in
          let kk : k ≡ short L.child = omega (arith, child_long) in
          let is : lend_last x.tree.no (L.item ∷ L.lows) L.child [] ≡ lent x.tree.no L.lows v = ap (λ (i : ℕ). lent x.tree.no L.lows (steal left i tw)) (sym kk) in
          record {
            way = under (record { no = x.tree.no; left = record { pair = v.pair; edge = v.left } ∷ L.lows; right = [] }) x.way;
            tree = v.right;
            held = record {
              nodes = move_nodes x.held.nodes x.tree.no (length L.lows) L.item.edge.no L.child.no (staying left k tw);
              arena = arena_moved x.held.nodes x.tree.no node (length L.lows) i L.item.edge.no a L.child.no b k x.node_is place_is left_is child_is (staying left k tw) (ap (λ (j : ℕ). j - k) (left_long x.way x.tree.no L.lows tw [] free T)) (call _ x.held.nodes ready x.held.arena);
              stand = hole_high x.way x.tree.no L.lows v [] free (move_step x.way x.tree.no L.lows tw [] free T (staying left k tw) place);
              many = move_long x.way x.tree.no L.lows tw [] free T (staying left k tw) place ∙ x.held.many;
              told = tt;
            };
            node_is = child_is;
            some = some_of h (length v.right.rest) (omega (arith, subst (λ (z : Bordering (Tree h)). least ≤ length z.child.rest) is lends.enough));
            plenty = subst (λ (z : Bordering (Tree h)). LastKids (Perfect h) (Plenty h) z.child.first z.child.rest) is lends.kids;
            same = ap (λ (z : Bordering (Tree h)). plenty_down h (under z.frame x.way) z.child) (sym is) ∙ going;
          }

-- ---- where it starts, a step, where it ends

root_some : (h n : ℕ) → RootLen h n → Some h n
root_some zero n l = tt
root_some (suc h) n l = l.0

pub stock_starts : {w : List ℕ} {g : Rest} {t : Whole} {free : List ℕ} → Pushed w g t free → Stocks w g (header w root_word) (header w height_word) (plenty_of t.height t.root) free
stock_starts {w} {g} {t} {free} x = go t.height t.root x.held x.plenty
  where
    go : (h : ℕ) (u : Tree h) → ClosedBy Uncounted w g (record { whole = record { height = h; root = u }; free = free }) → RootPlenty h u → Stocks w g (header w root_word) (header w height_word) (plenty_of h u) free
    go zero u H r = absurd r
    go (suc h) u H r =
        let eh : header w height_word ≡ pred (suc h) = hole_header top u free H height_word (omega arith) in
        let er : header w root_word ≡ u.no = hole_header top u free H root_word (omega arith) in
        subst (λ (i : ℕ). Stocks w g (header w root_word) i (plenty_of (suc h) u) free) (sym eh) (record { way = top; tree = u; held = H; node_is = sym er; some = root_some h (length u.rest) r.0; plenty = r.1; same = refl })

pub stocks_in : {w : List ℕ} {g : Rest} {node : ℕ} {t : Whole} {free : List ℕ} (h : ℕ) → 0 < h → Stocks w g node h t free → StocksIn w node
stocks_in zero l x = absurd (omega arith)
stocks_in {g = g} {t = t} {free = free} (suc h) l x = record { height = h; rest = g; end = t; free = free; coming = x }

pub stock_step : {w w' : List ℕ} {g : Rest} {node r : ℕ} {t : Whole} {free : List ℕ} (h : ℕ) → 0 < h → ((h : ℕ) (g : Rest) (t : Whole) (free : List ℕ) → Stocks w g node (suc h) t free → Stocks w' g r h t free) → Stocks w g node h t free → Stocks w' g r (h - 1) t free
stock_step zero l call x = absurd (omega arith)
stock_step {g = g} {t = t} {free = free} (suc h) l call x = rw (sub-one (suc h)) (call h g t free x)

pub stock_ends : {w : List ℕ} {g : Rest} {node : ℕ} {t : Whole} {free : List ℕ} (h : ℕ) → h ≡ 0 → Stocks w g node h t free → ClosedBy Uncounted w g (record { whole = t; free = free })
stock_ends {w} {g} {free = free} zero e x = subst (λ (t : Whole). ClosedBy Uncounted w g (record { whole = t; free = free })) x.same (closed_in x.way x.tree free x.held)
stock_ends (suc h) e x = absurd (omega arith)

pub pushed_long : {w : List ℕ} {g : Rest} {t : Whole} {free : List ℕ} → Pushed w g t free → length w ≡ base g.size
pushed_long {t = t} {free = free} x = hole_long top t.root free x.held
