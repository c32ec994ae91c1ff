-- Down a border, in words: the border child and its sibling, what each call of the store asks, and what the words are after it.
-- Assumes nothing.
use Prim.Native.Nat.{ℕ, zero, suc, ◌+◌, ◌-◌, ◌≤◌, ◌<◌}
use native.Mathlib.Numerals.{sub-one}
use native.Mathlib.Omega.{arith}
use mathlib.Core.Path.{◌≡◌, refl, ap, ◌∙◌, sym, subst}
use mathlib.Core.Bool.{true, false}
use Rattle.border.specs.declared.Border.{Border}
use Rattle.border.specs.declared.Border.TheVariants as edge
use mathlib.Core.List.{List, [], ◌∷◌}
use lib.ListN.{length}
use borrow.Author.Tests.{leb-false}
use Rattle.model.specs.Layout.{least, most, header, root_word, height_word, word_at, length_word, edges_word}
use Rattle.model.specs.Tree.{Item, Node, Tree, Frame, Ctx, top, under, plug, fill, Twin}
use Rattle.model.specs.Nodes.{returned, Grown}
use Rattle.model.specs.Insert.{Side, left, right, cut}
use Rattle.model.specs.Remove.{join, can_merge, steal, beside_left, beside_right, merged, moved, balance}
use Rattle.model.specs.Border.{lacks, stock_last, stock, fix_down}
use Rattle.model.proofs.Plug.{length_fill}
use Rattle.model.proofs.Balance.{balance_merged, balance_moved, steal_lengths}
use Rattle.model.specs.Remove.{lender, taker}
use Rattle.model.proofs.Border.{other}
use Rattle.model.proofs.Cut.{length_join, join_cut}
use Rattle.node.specs.declared.NodeNo.{NodeNo}
use Rattle.node.specs.Reading.{Within}
use Rattle.standing.specs.Standing.{Hole}
use Rattle.standing.proofs.Scenes.{zoom_in}
use Rattle.shrinking.proofs.Steps.{beside_high, beside_low, hole_low, hole_high}
use Rattle.node.specs.declared.LeftOrRight.{LeftOrRight}
use Rattle.balance.specs.declared.BalancingContext.{BalancingContext}
use Rattle.standing.specs.Heads.{Rest, HoleIn}
use Rattle.fix.proofs.Holes.{closed_in, node_within, node_long, node_most, left_sibling, right_sibling, own_edge}
use Rattle.fix.specs.Repairs.{side_of, both_of, Neighbours, MergeCall, Stealing, StealCall}
use Rattle.fix.proofs.Balances.{word_left, word_right, sides_known}
use Rattle.border.specs.Borders.{side_at, border_kv, border_child, Rooted, Topped, Descending, DescendsIn, down}
use Rattle.border.proofs.Tops.{some_pairs, root_word_is, height_word_is, rooted_of, plug_some}

-- ---- the border child of two neighbours, at the side s: the parent with its hole there

abbrev pub hole_at : {h : ℕ} → Side → Ctx (suc (suc h)) → ℕ → List (Item (Tree (suc h))) → Twin (Tree (suc h)) → List (Item (Tree (suc h))) → Ctx (suc h)
hole_at right c n l v r = under (record { no = n; left = record { pair = v.pair; edge = v.left } ∷ l; right = r }) c
hole_at left c n l v r = under (record { no = n; left = l; right = record { pair = v.pair; edge = v.right } ∷ r }) c

hole_at_lem : {w : List ℕ} {g : Rest} {h : ℕ} (s : Side) (c : Ctx (suc (suc h))) (n : ℕ) (l : List (Item (Tree (suc h)))) (v : Twin (Tree (suc h))) (r : List (Item (Tree (suc h)))) (free : List ℕ)
    → HoleIn w g (under (record { no = n; left = l; right = record { pair = v.pair; edge = v.right } ∷ r }) c) v.left free → HoleIn w g (hole_at s c n l v r) (taker (other s) v) free
hole_at_lem right c n l v r free H = record { nodes = H.nodes; arena = H.arena; stand = hole_high c n l v r free (beside_low c n l v r free H.stand); many = H.many; told = H.told }
hole_at_lem left c n l v r free H = H

pub record Stocking (s : Side) (w : List ℕ) (g : Rest) (h : ℕ) (t : Grown) (b : BalancingContext) : Type 0 where
  pub both : Neighbours w g b
  pub height_is : both.height ≡ h
  pub when_merged : can_merge both.twin ≡ true → fix_down s both.height (under (record { no = both.no; left = both.lows; right = both.highs }) both.ctx) (join both.twin) (returned both.twin.right.no both.free) ≡ t
  pub when_moved : can_merge both.twin ≡ false
      → fix_down s both.height (hole_at s both.ctx both.no both.lows (steal (other s) (lacks (taker (other s) both.twin)) both.twin) both.highs) (taker (other s) (steal (other s) (lacks (taker (other s) both.twin)) both.twin)) both.free ≡ t

-- the border child's number
abbrev pub child_no : Side → BalancingContext → ℕ
child_no right b = b.right.0
child_no left b = b.left.0

none_moved : {A : Type 0} (s : Side) (w : Twin (Node A)) → steal s 0 w ≡ w
none_moved left w = let z : length w.left.rest - 0 ≡ length w.left.rest = omega arith in ap (λ (m : ℕ). cut m w.right.no w.pair (join w)) z ∙ join_cut w
none_moved right w = let z : length w.left.rest + 0 ≡ length w.left.rest = omega arith in ap (λ (m : ℕ). cut m w.right.no w.pair (join w)) z ∙ join_cut w

module _ {s : Side} {w : List ℕ} {g : Rest} {h : ℕ} {t : Grown} {b : BalancingContext} (q : Stocking s w g h t b) where
  abbrev B : Neighbours w g b
  B = q.both

  abbrev child : Tree (suc B.height)
  child = taker (other s) B.twin

  pub stock_merged : can_merge q.both.twin ≡ true → {w' : List ℕ} → MergeCall w w' b → Descending s w' g b.left.0 h t
  stock_merged e {w'} call =
      let f : Frame (Tree (suc B.height)) = record { no = B.no; left = B.lows; right = B.highs } in
      let H = call g B e in
      subst (λ (i : ℕ). Descending s w' g b.left.0 i t) q.height_is
      (record {
        way = under f B.ctx;
        tree = join B.twin;
        free = returned B.twin.right.no B.free;
        held = record { nodes = H.nodes; arena = H.arena; stand = zoom_in f B.ctx (join B.twin) (returned B.twin.right.no B.free) H.stand; many = H.many; told = H.told };
        node_is = ap (λ (x : BalancingContext). x.left.0) B.is;
        some = some_pairs B.height (length (join B.twin).rest) (omega (arith, length_join B.twin));
        same = q.when_merged e;
      })

  child_is : (s : Side) → (taker (other s) B.twin).no ≡ child_no s b
  child_is right = ap (λ (x : BalancingContext). x.right.0) B.is
  child_is left = ap (λ (x : BalancingContext). x.left.0) B.is

  pub child_word : word_at w (child_no s b) length_word ≡ length (taker (other s) q.both.twin).rest
  child_word = go s
    where
      go : (s : Side) → word_at w (child_no s b) length_word ≡ length (taker (other s) B.twin).rest
      go right = word_right B
      go left = word_left B

  pub child_within : Within w (child_no s b)
  child_within = go s
    where
      go : (s : Side) → Within w (child_no s b)
      go right = (sides_known B).1
      go left = (sides_known B).0

  module _ (e : can_merge q.both.twin ≡ false) where
    -- it has 6 or more
    pub stock_stays : least < length (taker (other s) q.both.twin).rest → Descending s w g (child_no s b) h t
    stock_stays l =
        let z : lacks child ≡ 0 = omega arith in
        let v : steal (other s) (lacks child) B.twin ≡ B.twin = ap (λ (k : ℕ). steal (other s) k B.twin) z ∙ none_moved (other s) B.twin in
        subst (λ (i : ℕ). Descending s w g (child_no s b) i t) q.height_is
        (record {
          way = hole_at s B.ctx B.no B.lows B.twin B.highs;
          tree = child;
          free = B.free;
          held = hole_at_lem s B.ctx B.no B.lows B.twin B.highs B.free B.held;
          node_is = child_is s;
          some = some_pairs B.height (length child.rest) (omega arith);
          same = ap (λ (x : Twin (Tree (suc B.height))). fix_down s B.height (hole_at s B.ctx B.no B.lows x B.highs) (taker (other s) x) B.free) (sym v) ∙ q.when_moved e;
        })

    -- it is stocked
    module _ (k : ℕ) (ek : k ≡ least + 1 - length (taker (other s) q.both.twin).rest) (few : length (taker (other s) q.both.twin).rest ≤ least) where
      lent : k ≤ length (lender (other s) B.twin).rest
      lent = go (other s) refl
        where
          many : most < length B.twin.left.rest + 1 + length B.twin.right.rest
          many = leb-false (length B.twin.left.rest + 1 + length B.twin.right.rest) most e

          go : (o : Side) → other s ≡ o → k ≤ length (lender (other s) B.twin).rest
          go o p = subst (λ (x : Side). length (taker x B.twin).rest ≤ least → k ≡ least + 1 - length (taker x B.twin).rest → k ≤ length (lender x B.twin).rest) (sym p) (by o) few ek
            where
              by : (o : Side) → length (taker o B.twin).rest ≤ least → k ≡ least + 1 - length (taker o B.twin).rest → k ≤ length (lender o B.twin).rest
              by left f z = omega (arith, many)
              by right f z = omega (arith, many)

      pub stock_in : Stealing (other s) w b k
      stock_in = record { rest = g; both = B; some = omega arith; lent = lent; room = omega arith }

      stolen_no : (s : Side) → (taker (other s) (steal (other s) k B.twin)).no ≡ (taker (other s) B.twin).no
      stolen_no right = refl
      stolen_no left = refl

      pub stock_moved : {w' : List ℕ} → StealCall (other s) w w' b k → Descending s w' g (child_no s b) h t
      stock_moved {w'} call =
          let x = steal (other s) k B.twin in
          let H = call g B (omega arith) lent (omega arith) in
          let n = (steal_lengths k B.twin (other s) lent).1 in
          subst (λ (i : ℕ). Descending s w' g (child_no s b) i t) q.height_is
          (record {
            way = hole_at s B.ctx B.no B.lows x B.highs;
            tree = taker (other s) x;
            free = B.free;
            held = hole_at_lem s B.ctx B.no B.lows x B.highs B.free H;
            node_is = stolen_no s ∙ child_is s;
            some = some_pairs B.height (length (taker (other s) x).rest) (omega (arith, n));
            same = ap (λ (i : ℕ). fix_down s B.height (hole_at s B.ctx B.no B.lows (steal (other s) i B.twin) B.highs) (taker (other s) (steal (other s) i B.twin)) B.free) ek ∙ q.when_moved e;
          })

-- ---- the border child of a node that the repair has come to

down_merged : (s : Side) {h : ℕ} (c : Ctx (suc (suc h))) (t : Tree (suc (suc h))) (free : List ℕ) (g : Frame (Tree (suc h))) (u : Tree (suc h)) (n : ℕ) → stock s t ≡ merged g u n → fix_down s (suc h) c t free ≡ fix_down s h (under g c) u (returned n free)
down_merged s c t free g u n e = rw (e, fix_down) refl

down_moved : (s : Side) {h : ℕ} (c : Ctx (suc (suc h))) (t : Tree (suc (suc h))) (free : List ℕ) (g : Frame (Tree (suc h))) (u : Tree (suc h)) → stock s t ≡ moved g u → fix_down s (suc h) c t free ≡ fix_down s h (under g c) u free
down_moved s c t free g u e = rw (e, fix_down) refl

-- the last edge
pub record LastAt {A : Type 0} (n : ℕ) (l : List (Item (Node A))) (e : Node A) (r : List (Item (Node A))) : Type 0 where
  pub item : Item (Node A)
  pub lows : List (Item (Node A))
  pub child : Node A
  pub stocked : stock_last n l e r ≡ balance left (lacks child) (beside_left n item lows child [])
  pub filled : fill n l e r ≡ fill n (item ∷ lows) child []

last_at : {A : Type 0} (n : ℕ) (l : List (Item (Node A))) (e : Node A) (r : List (Item (Node A))) → 1 ≤ length l + length r → LastAt n l e r
last_at n [] e [] o = absurd (omega arith)
last_at n (x ∷ l) e [] o = record { item = x; lows = l; child = e; stocked = refl; filled = refl }
last_at n [] e (x ∷ r) o = let k = last_at n (record { pair = x.pair; edge = e } ∷ []) x.edge r (omega arith) in record { item = k.item; lows = k.lows; child = k.child; stocked = k.stocked; filled = k.filled }
last_at n (y ∷ l) e (x ∷ r) o = let k = last_at n (record { pair = x.pair; edge = e } ∷ y ∷ l) x.edge r (omega arith) in record { item = k.item; lows = k.lows; child = k.child; stocked = k.stocked; filled = k.filled }

pub known : {s : Side} {w : List ℕ} {g : Rest} {node h : ℕ} {t : Grown} → (x : Descending s w g node (suc h) t) → Within w node × (word_at w node length_word ≡ length x.tree.rest) × (1 ≤ length x.tree.rest) × (length x.tree.rest ≤ most)
known x = (rw x.node_is at (node_within x.way x.tree x.free x.held), rw x.node_is at (node_long x.way x.tree x.free x.held), x.some, node_most x.way x.tree x.free x.held)

module _ {w : List ℕ} {g : Rest} {node h : ℕ} {t : Grown} where
  module _ (x : Descending right w g node (suc h) t) where
    abbrev L : LastAt x.tree.no [] x.tree.first x.tree.rest
    L = last_at x.tree.no [] x.tree.first x.tree.rest (omega (arith, x.some))

    abbrev f : Frame (Tree (suc h))
    f = record { no = x.tree.no; left = L.item ∷ L.lows; right = [] }

    H : HoleIn w g (under f x.way) L.child x.free
    H = record { nodes = x.held.nodes; arena = x.held.arena; stand = zoom_in f x.way L.child x.free (subst (λ (v : Tree (suc (suc h))). Hole x.held.nodes x.way v x.free) L.filled x.held.stand); many = x.held.many; told = x.held.told }

    count_is : length x.tree.rest ≡ suc (length L.lows)
    count_is = ap (λ (v : Tree (suc (suc h))). length v.rest) L.filled ∙ length_fill x.tree.no (L.item ∷ L.lows) L.child [] ∙ omega arith

    abbrev tw : Twin (Tree (suc h))
    tw = record { left = L.item.edge; pair = L.item.pair; right = L.child }

    right_stocking : (i n : ℕ) → n ≡ length x.tree.rest → i ≡ n - 1 → (a b : NodeNo) → a.0 ≡ word_at w node (edges_word + i) → b.0 ≡ word_at w node (edges_word + n) → Stocking right w g h t (record { parent = record { 0 = node }; at = record { 0 = i }; left = a; right = b })
    right_stocking i n en ei a b ea eb =
        let ki : length L.lows ≡ i = omega (arith, count_is) in
        let kn : suc (length L.lows) ≡ n = omega (arith, count_is) in
        let u : L.item.edge.no ≡ a.0 = sym (rw (← ki, ← x.node_is) at ea ∙ left_sibling x.tree.no L.item L.lows [] x.way L.child x.free H) in
        let v : L.child.no ≡ b.0 = sym (rw (← kn, ← x.node_is) at eb ∙ own_edge x.tree.no (L.item ∷ L.lows) [] x.way L.child x.free H) in
        record {
          both = record {
            height = h;
            ctx = x.way;
            no = x.tree.no;
            lows = L.lows;
            twin = tw;
            highs = [];
            free = x.free;
            held = record { nodes = H.nodes; arena = H.arena; stand = hole_low x.way x.tree.no L.lows tw [] x.free (beside_high x.way x.tree.no L.lows tw [] x.free H.stand); many = H.many; told = H.told };
            is = λ j. record { parent = record { 0 = x.node_is j }; at = record { 0 = ki j }; left = record { 0 = u j }; right = record { 0 = v j } };
          };
          height_is = refl;
          when_merged = λ c. sym (down_merged right x.way x.tree x.free _ _ _ (L.stocked ∙ balance_merged left (lacks L.child) (beside_left x.tree.no L.item L.lows L.child []) c)) ∙ x.same;
          when_moved = λ c. sym (down_moved right x.way x.tree x.free _ _ (L.stocked ∙ balance_moved left (lacks L.child) (beside_left x.tree.no L.item L.lows L.child []) c)) ∙ x.same;
        }

-- the first edge
module _ {w : List ℕ} {g : Rest} {node h : ℕ} {t : Grown} (x : Descending left w g node (suc h) t) where
  left_stocking : (a b : NodeNo) → a.0 ≡ word_at w node (edges_word + 0) → b.0 ≡ word_at w node (edges_word + 1) → Stocking left w g h t (record { parent = record { 0 = node }; at = record { 0 = 0 }; left = a; right = b })
  left_stocking a b ea eb = by x.tree.no x.tree.first x.tree.rest x.way x.free x.held x.node_is x.some x.same
    where
      by : (n : ℕ) (e : Tree (suc h)) (r : List (Item (Tree (suc h)))) (c : Ctx (suc (suc h))) (free : List ℕ) → HoleIn w g c (record { no = n; first = e; rest = r }) free → n ≡ node → 1 ≤ length r → fix_down left (suc h) c (record { no = n; first = e; rest = r }) free ≡ t
          → Stocking left w g h t (record { parent = record { 0 = node }; at = record { 0 = 0 }; left = a; right = b })
      by n e [] c free H en l q = absurd (omega arith)
      by n e (y ∷ r) c free H en l q =
          let f : Frame (Tree (suc h)) = record { no = n; left = []; right = y ∷ r } in
          let T : Tree (suc (suc h)) = record { no = n; first = e; rest = y ∷ r } in
          let K : HoleIn w g (under f c) e free = record { nodes = H.nodes; arena = H.arena; stand = zoom_in f c e free H.stand; many = H.many; told = H.told } in
          let u : e.no ≡ a.0 = sym (rw (← en) at ea ∙ own_edge n [] (y ∷ r) c e free K) in
          let v : y.edge.no ≡ b.0 = sym (rw (← en) at eb ∙ right_sibling n y r c e free K) in
          record {
            both = record {
              height = h;
              ctx = c;
              no = n;
              lows = [];
              twin = record { left = e; pair = y.pair; right = y.edge };
              highs = r;
              free = free;
              held = K;
              is = λ j. record { parent = record { 0 = en j }; at = record { 0 = 0 }; left = record { 0 = u j }; right = record { 0 = v j } };
            };
            height_is = refl;
            when_merged = λ m. sym (down_merged left c T free _ _ _ (balance_merged right (lacks e) (beside_right n [] e y r) m)) ∙ q;
            when_moved = λ m. sym (down_moved left c T free _ _ (balance_moved right (lacks e) (beside_right n [] e y r) m)) ∙ q;
          }

-- ---- the same at either border, as the code has it

module _ {w : List ℕ} {node : NodeNo} where
  pub border_stocking : (b : Border) {g : Rest} {h : ℕ} {t : Grown} → Descending (side_at b) w g node.0 (suc h) t → Stocking (side_at b) w g h t (both_of (border_kv b w node))
  border_stocking edge.Right x =
      let n = word_at w node.0 length_word in
      let e : n - 1 + 1 ≡ n = omega (arith, known x) in
      right_stocking x (n - 1) n (known x).1 refl _ _ refl (ap (λ (i : ℕ). word_at w node.0 (edges_word + i)) e)
  border_stocking edge.Left x = left_stocking x _ _ refl refl

module _ (w : List ℕ) (node : NodeNo) where
  pub sibling_side : (b : Border) → side_of (border_kv b w node) ≡ other (side_at b)
  sibling_side edge.Right = refl
  sibling_side edge.Left = refl

  pub child_is_there : (b : Border) → (border_child (border_kv b w node)).0 ≡ child_no (side_at b) (both_of (border_kv b w node))
  child_is_there edge.Right = refl
  child_is_there edge.Left = refl

module _ (b : Border) {w : List ℕ} {node : NodeNo} {g : Rest} {h : ℕ} {t : Grown} (x : Descending (side_at b) w g node.0 (suc h) t) {k : LeftOrRight BalancingContext} (is : k ≡ border_kv b w node) {n : BalancingContext} (both_is : n ≡ both_of k) where
  pub here : Stocking (side_at b) w g h t n
  here = subst (Stocking (side_at b) w g h t) (sym (both_is ∙ ap both_of is)) (border_stocking b x)

  side_is : side_of k ≡ other (side_at b)
  side_is = ap side_of is ∙ sibling_side w node b

  module _ {c : NodeNo} (child : c ≡ border_child k) where
    no_is : child_no (side_at b) n ≡ c.0
    no_is = ap (child_no (side_at b)) (both_is ∙ ap both_of is) ∙ (sym (child_is_there w node b) ∙ sym (ap (λ (m : NodeNo). m.0) (child ∙ ap border_child is)))

    pub child_in : Within w c.0
    child_in = subst (Within w) no_is (child_within here)

    module _ (apart : can_merge here.both.twin ≡ false) (long : ℕ) (long_is : long ≡ word_at w c.0 length_word) where
      taken : long ≡ length (taker (other (side_at b)) here.both.twin).rest
      taken = long_is ∙ (sym (ap (λ (m : ℕ). word_at w m length_word) no_is) ∙ child_word here)

      pub left_alone : least < long → Descending (side_at b) w g c.0 h t
      left_alone l = subst (λ (m : ℕ). Descending (side_at b) w g m h t) no_is (stock_stays here apart (omega (arith, taken)))

      module _ (few : long ≤ least) (count : ℕ) (count_is : count ≡ least + 1 - long) where
        pub stealing_in : Stealing (side_of k) w (both_of k) count
        stealing_in = subst (λ (s : Side). Stealing s w (both_of k) count) (sym side_is) (subst (λ (m : BalancingContext). Stealing (other (side_at b)) w m count) both_is (stock_in here apart count (omega (arith, taken)) (omega (arith, taken))))

        pub stocked : {w' : List ℕ} → StealCall (side_of k) w w' (both_of k) count → Descending (side_at b) w' g c.0 h t
        stocked {w'} call =
            let d : StealCall (other (side_at b)) w w' n count = subst (λ (m : BalancingContext). StealCall (other (side_at b)) w w' m count) (sym both_is) (subst (λ (s : Side). StealCall s w w' (both_of k) count) side_is call) in
            subst (λ (m : ℕ). Descending (side_at b) w' g m h t) no_is (stock_moved here apart count (omega (arith, taken)) (omega (arith, taken)) d)

-- ---- the way down: where it starts, a step, where it ends

pub down_starts : (s : Side) {w : List ℕ} {g : Rest} {t : Grown} → Topped w g t → Descending s w g (header w root_word) (header w height_word) (down s t)
down_starts s {w} {g} {t} x =
    let r = x.rooted in
    subst (λ (i : ℕ). Descending s w g (header w root_word) i (down s t)) (sym (height_word_is r))
    (record { way = top; tree = r.tree; free = r.free; held = r.held; node_is = sym (root_word_is r); some = x.some; same = ap (down s) r.same })

pub descends : (s : Side) {w : List ℕ} {g : Rest} {node : ℕ} {t : Grown} (h : ℕ) → 0 < h → Descending s w g node h t → DescendsIn s w node
descends s zero l x = absurd (omega arith)
descends s {g = g} {t = t} (suc h) l x = record { height = h; rest = g; end = t; coming = x }

pub down_step : (s : Side) {w w' : List ℕ} {g : Rest} {node r : ℕ} {t : Grown} (h : ℕ) → 0 < h → ((h : ℕ) (g : Rest) (t : Grown) → Descending s w g node (suc h) t → Descending s w' g r h t) → Descending s w g node h t → Descending s w' g r (h - 1) t
down_step s zero l call x = absurd (omega arith)
down_step s {g = g} {t = t} (suc h) l call x = rw (sub-one (suc h)) (call h g t x)

pub down_ends : (s : Side) {w : List ℕ} {g : Rest} {node : ℕ} {t : Grown} (h : ℕ) → h ≡ 0 → Descending s w g node h t → Rooted w g t
down_ends s {w} {g} zero e x = subst (Rooted w g) x.same (rooted_of (record { whole = plug x.way x.tree; free = x.free }) (closed_in x.way x.tree x.free x.held) (plug_some x.way x.tree))
down_ends s (suc h) e x = absurd (omega arith)
