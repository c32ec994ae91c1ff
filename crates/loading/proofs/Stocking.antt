-- The right border stocked to 5 from neighbours that have 11: the same list and numbers, and sound sizes.
-- Assumes nothing.
use Prim.Native.Nat.{ℕ, zero, suc, ◌+◌, ◌≤◌}
use native.Mathlib.Omega.{arith}
use mathlib.Core.Path.{◌≡◌, ap, ◌∙◌, sym}
use mathlib.Core.List.{List, [], ◌∷◌, ◌++◌, append_assoc, append-nil}
use lib.ListN.{length}
use Rattle.model.specs.Lists.{one}
use Rattle.model.specs.Layout.{least, most}
use Rattle.model.specs.Tree.{Pair, Item, Node, Tree, Ctx, top, under, Whole, plug, fill, fill_first, fill_rest, Twin, flat, flats, lefts, before, after, flat_of, has_in, has_node, has, has_ctx, has_whole}
use Rattle.model.specs.Insert.{left, right}
use Rattle.model.specs.Remove.{join, staying}
use Rattle.model.specs.Sound.{AllIn, Full}
use Rattle.model.proofs.Lists.{all_map}
use Rattle.model.proofs.Plug.{woven, flat_plug, has_plug, length_fill}
use Rattle.model.proofs.Sizes.{RootLen, Len, FullCtx, FullWhole, node_fits, plug_full, gaps_full, len_some}
use Rattle.model.proofs.Cut.{join_flat, cut_flat, has_join, has_cut}
use Rattle.model.proofs.Balance.{Stocked, steal_place, steal_lengths}
use Rattle.model.proofs.Border.{LastKids, end_steal}
use Rattle.model.specs.Load.{Bordering, short, lend_last, plenty_down}
pub use Rattle.loading.specs.Shapes.{Perfect, RootSome, Inner, Filling, Plenty, RootPlenty}

-- ---- a border tree before it is stocked

module _ {A : Type 0} (P Q : A → Type 0) where
  pub last_fill : (n : ℕ) (l : List (Item A)) (x : A) (r : List (Item A)) → AllIn P l → LastKids P Q x r → LastKids P Q (fill_first l x) (fill_rest l x r)
  last_fill n [] x r a k = k
  last_fill n (y ∷ l) x r a k = last_fill n l y.edge (record { pair = y.pair; edge = x } ∷ r) a.1 (a.0, k)

root_len : (h n : ℕ) → RootSome {h = h} top n → n ≤ most → RootLen h n
root_len zero n s l = l
root_len (suc h) n s l = (s, l)

pub filling_plenty : {h : ℕ} (c : Ctx h) (t : Tree h) → Filling c → Inner c → Plenty h t → RootPlenty (plug c t).height (plug c t).root
filling_plenty top t fc i pt = absurd i
filling_plenty (under {h = h} f c) t fc i pt = go c (fill f.no f.left t f.right) fc.3 fc.4 (filling_plenty c) k (rw len at fc.1) (len)
  where
    len : length f.left ≡ length (fill f.no f.left t f.right).rest
    len = sym (length_fill f.no f.left t f.right ∙ omega (arith, ap length fc.0))

    k : LastKids (Perfect h) (Plenty h) (fill_first f.left t) (fill_rest f.left t f.right)
    k = last_fill (Perfect h) (Plenty h) f.no f.left t f.right fc.2 (rw fc.0 pt)

    go : (c : Ctx (suc h)) (u : Tree (suc h)) → RootSome c (length f.left) → Filling c → ((t : Tree (suc h)) → Filling c → Inner c → Plenty (suc h) t → RootPlenty (plug c t).height (plug c t).root)
        → LastKids (Perfect h) (Plenty h) u.first u.rest → length u.rest ≤ most → length f.left ≡ length u.rest → RootPlenty (plug c u).height (plug c u).root
    go top u s fc ih k l e = (root_len h (length u.rest) (rw e at s) l, k)
    go (under g c) u s fc ih k l e = ih u fc tt (l, k)

-- ---- a child and its left neighbour

module _ {A : Type 0} (P Q : A → Type 0) where
  -- what is made of the last child e, with l left of it and r right of it
  pub record Lent (n : ℕ) (l : List (Item (Node A))) (e : Node A) (r : List (Item (Node A))) (b : Bordering A) : Type 1 where
    pub flat_is : (f : A → List Pair) → lefts (woven f) b.frame.left ++ (woven f b.child ++ flats (woven f) b.frame.right) ≡ lefts (woven f) l ++ (woven f e ++ flats (woven f) r)
    pub has_is : (f : A → ℕ) (m : ℕ)
        → one b.frame.no m + (has_in (has_node f m) b.frame.left + (has_node f m b.child + has_in (has_node f m) b.frame.right)) ≡ one n m + (has_in (has_node f m) l + (has_node f m e + has_in (has_node f m) r))
    pub enough : least ≤ length b.child.rest
    pub fits : length b.child.rest ≤ most
    pub kids : LastKids P Q b.child.first b.child.rest
    pub lefts_full : AllIn (Stocked P) b.frame.left
    pub rights_full : AllIn (Stocked P) b.frame.right
    pub pairs_are : length b.frame.left + length b.frame.right ≡ length l + length r

  -- eleven pairs, and any number
  abbrev Eleven : Node A → Type 0
  Eleven t = (length t.rest ≡ most) × P t.first × AllIn P t.rest

  abbrev Any : Node A → Type 0
  Any t = (length t.rest ≤ most) × LastKids P Q t.first t.rest

  eleven_stocked : (l : List (Item (Node A))) → AllIn Eleven l → AllIn (Stocked P) l
  eleven_stocked = all_map _ _ (λ (x : Item (Node A)) (h : Eleven x.edge). (omega (arith, h.0), omega (arith, h.0), h.1, h.2))

  lends : (n : ℕ) (x : Item (Node A)) (l : List (Item (Node A))) (e : Node A) → Eleven x.edge → AllIn Eleven l → Any e → Lent n (x ∷ l) e [] (lend_last n (x ∷ l) e [])
  lends n x l e fx fl ke =
      let w : Twin (Node A) = record { left = x.edge; pair = x.pair; right = e } in
      let room : short e ≤ length x.edge.rest = omega (arith, fx.0) in
      let place = steal_place (short e) w left room in
      let q = steal_lengths (short e) w left room in
      let k = end_steal P Q right (short e) w room (fx.1, fx.2) ke.1 in
      record {
        flat_is = λ f. simp (append_assoc, append-nil) (simp append_assoc at (ap (λ (t : List Pair). lefts (woven f) l ++ t) (cut_flat f (staying left (short e) w) e.no x.pair (join w) place ∙ join_flat f w)));
        has_is = λ f m. omega (arith, has_cut f m (staying left (short e) w) e.no x.pair (join w) place, has_join f m w);
        enough = omega (arith, q.1);
        fits = omega (arith, q.1, ke.0);
        kids = k.1;
        lefts_full = ((omega (arith, q.0, fx.0), omega (arith, q.0, fx.0), k.0.0, k.0.1), eleven_stocked l fl);
        rights_full = tt;
        pairs_are = omega arith;
      }

  pub lend_last_lem : (n : ℕ) (l : List (Item (Node A))) (e : Node A) (r : List (Item (Node A))) → AllIn Eleven l → LastKids Eleven Any e r → 1 ≤ length l + length r → Lent n l e r (lend_last n l e r)
  lend_last_lem n [] e [] fl k s = absurd (omega arith)
  lend_last_lem n (x ∷ l) e [] fl k s = lends n x l e fl.0 fl.1 k
  lend_last_lem n l e (x ∷ r) fl k s =
      let i = lend_last_lem n (record { pair = x.pair; edge = e } ∷ l) x.edge r (k.0, fl) k.1 (omega arith) in
      record {
        flat_is = λ f. i.flat_is f ∙ simp append_assoc;
        has_is = λ f m. i.has_is f m ∙ omega arith;
        enough = i.enough;
        fits = i.fits;
        kids = i.kids;
        lefts_full = i.lefts_full;
        rights_full = i.rights_full;
        pairs_are = i.pairs_are ∙ omega arith;
      }

-- ---- down the border

pub perfect_full : (h : ℕ) (t : Tree h) → Perfect h t → Full h t
perfect_full zero t p = tt
perfect_full (suc h) t p = (omega (arith, p.0), omega (arith, p.0), perfect_full h t.first p.1, all_map _ _ (λ (x : Item (Tree h)). perfect_full h x.edge) t.rest p.2)

stocked_full : (h : ℕ) (l : List (Item (Tree (suc h)))) → AllIn (Stocked (Perfect h)) l → AllIn (Full (suc h)) l
stocked_full h = all_map _ _ (λ (x : Item (Tree (suc h))) (s : Stocked (Perfect h) x.edge). (s.0, s.1, perfect_full h x.edge.first s.2, all_map _ _ (λ (y : Item (Tree h)). perfect_full h y.edge) x.edge.rest s.3))

pub record Restocked {h : ℕ} (c : Ctx (suc h)) (t : Tree (suc h)) (w : Whole) : Type 0 where
  pub flat_is : flat_of w ≡ before c ++ (flat (suc h) t ++ after c)
  pub has_is : (m : ℕ) → has_whole m w ≡ has_ctx m c + has m (suc h) t
  pub full : FullWhole w

pub down_restocked : (h : ℕ) (c : Ctx (suc h)) (t : Tree (suc h)) → FullCtx c → Len c (length t.rest) → LastKids (Perfect h) (Plenty h) t.first t.rest → Restocked c t (plenty_down h c t)
down_restocked zero c t fc l k = record { flat_is = flat_plug c t; has_is = λ m. has_plug m c t; full = plug_full c t fc (node_fits RootLen c t l tt (gaps_full t.rest)) }
down_restocked (suc h) c t fc l k =
    let b = lend_last t.no [] t.first t.rest in
    let o = lend_last_lem (Perfect h) (Plenty h) t.no [] t.first t.rest tt k (omega (arith, len_some c (length t.rest) l)) in
    let e : length b.frame.left + length b.frame.right ≡ length t.rest = o.pairs_are ∙ omega arith in
    let i = down_restocked h (under b.frame c) b.child (rw e l, stocked_full h b.frame.left o.lefts_full, stocked_full h b.frame.right o.rights_full, fc) (o.enough, o.fits) o.kids in
    record {
      flat_is = i.flat_is ∙ simp append_assoc (simp append_assoc at (ap (λ (q : List Pair). before c ++ (q ++ after c)) (o.flat_is (flat h))));
      has_is = λ m. i.has_is m ∙ omega (arith, o.has_is (has m h) m);
      full = i.full;
    }
