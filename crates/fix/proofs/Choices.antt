-- Which sibling is chosen, by the words that the code reads.
-- Assumes nothing.
use Prim.Native.Nat.{ℕ, suc, ◌+◌, ◌-◌, ◌≤◌, ◌<◌}
use native.Mathlib.Omega.{arith}
use mathlib.Core.Path.{◌≡◌, refl, ◌∙◌, sym}
use mathlib.Core.List.{List, [], ◌∷◌}
use lib.ListN.{length}
use Rattle.model.specs.Layout.{most, word_at, length_word, parent_word, place_word, edges_word}
use Rattle.model.specs.Tree.{Item, Tree, Ctx, top, under}
use Rattle.model.specs.Nodes.{Grown}
use Rattle.model.proofs.Sizes.{FullCtx, len_some}
use Rattle.node.proofs.Reading.{same_node, same_place}
use Rattle.node.specs.declared.NodeNo.{NodeNo}
use Rattle.node.specs.declared.Place.{Place}
use Rattle.node.specs.Reading.{Within, ascent_of}
use Rattle.std.proofs.Common.{None, Some}
use Rattle.node.specs.declared.LeftOrRight.TheVariants.{Left, Right}
use Rattle.standing.specs.Heads.{Rest}
use Rattle.standing.specs.Heads.{HoleIn}
use Rattle.fix.specs.Repairs.{Mending, sibling, chosen}
use Rattle.fix.proofs.Holes.{hangs, node_within, node_long, parent_within, place_most, left_sibling, right_sibling, ascent_is}

module _ {w : List ℕ} {g : Rest} {node : ℕ} {t : Grown} (m : Mending w g node t) where
  pub mending_within : Within w node
  mending_within = rw m.node_is at (node_within m.way m.tree m.free m.held)

  pub mending_long : word_at w node length_word ≡ length m.tree.rest
  mending_long = rw m.node_is at (node_long m.way m.tree m.free m.held)

  hung : ascent_of (word_at w node parent_word) (word_at w node place_word) ≡ hangs m.way
  hung = rw m.node_is at (ascent_is m.way m.tree m.free m.held)

  pub chose_root : ascent_of (word_at w node parent_word) (word_at w node place_word) ≡ None → None ≡ chosen m.way m.tree
  chose_root e = go m.way m.tree (sym hung ∙ e)
    where
      go : {h : ℕ} (c : Ctx (suc h)) (t : Tree (suc h)) → hangs c ≡ None → None ≡ chosen c t
      go top t e = refl
      go (under f c) t e = let z : ◌≡◌ {A = ℕ} 0 1 = cc in absurd (omega arith)

  module _ (p : NodeNo) (i : Place) (e : ascent_of (word_at w node parent_word) (word_at w node place_word) ≡ Some (p, i)) where
    pub parent_known : Within w p.0 × (i.0 ≤ most)
    parent_known = go m.way m.tree m.free m.held (sym hung ∙ e)
      where
        go : {h : ℕ} (c : Ctx (suc h)) (t : Tree (suc h)) (free : List ℕ) → HoleIn w g c t free → hangs c ≡ Some (p, i) → Within w p.0 × (i.0 ≤ most)
        go top t free H e = let z : ◌≡◌ {A = ℕ} 0 1 = cc in absurd (omega arith)
        go (under f c) t free H e =
            let ep : f.no ≡ p.0 = same_node e in
            let ei : length f.left ≡ i.0 = same_place e in
            (rw ep at (parent_within f.no f.left f.right c t free H), rw ei at (place_most f.no f.left f.right c t free H))

    pub chose_left : 0 < i.0 → (a : NodeNo) → a.0 ≡ word_at w p.0 (edges_word + (i.0 - 1)) → (n : NodeNo) → n.0 ≡ node → Some (Left (record { parent = p; at = record { 0 = i.0 - 1 }; left = a; right = n })) ≡ chosen m.way m.tree
    chose_left o a ea n en = go m.way m.tree m.free m.held m.node_is (sym hung ∙ e)
      where
        by : {h : ℕ} (f : ℕ) (l r : List (Item (Tree (suc h)))) (c : Ctx (suc (suc h))) (t : Tree (suc h)) (free : List ℕ) → HoleIn w g (under (record { no = f; left = l; right = r }) c) t free → t.no ≡ node → p.0 ≡ f → i.0 ≡ length l
            → Some (Left (record { parent = p; at = record { 0 = i.0 - 1 }; left = a; right = n })) ≡ sibling f l t r
        by f [] r c t free H q ep ei = absurd (omega arith)
        by f (x ∷ l) r c t free H q ep ei =
            let k : i.0 - 1 ≡ length l = omega arith in
            let u : a.0 ≡ x.edge.no = rw (ep, k) at ea ∙ left_sibling f x l r c t free H in
            let v : n.0 ≡ t.no = en ∙ sym q in
            λ j. Some (Left (record { parent = record { 0 = ep j }; at = record { 0 = k j }; left = record { 0 = u j }; right = record { 0 = v j } }))

        go : {h : ℕ} (c : Ctx (suc h)) (t : Tree (suc h)) (free : List ℕ) → HoleIn w g c t free → t.no ≡ node → hangs c ≡ Some (p, i) → Some (Left (record { parent = p; at = record { 0 = i.0 - 1 }; left = a; right = n })) ≡ chosen c t
        go top t free H q e = let z : ◌≡◌ {A = ℕ} 0 1 = cc in absurd (omega arith)
        go (under f c) t free H q e =
            let ep : p.0 ≡ f.no = sym (same_node e) in
            let ei : i.0 ≡ length f.left = sym (same_place e) in
            by f.no f.left f.right c t free H q ep ei

    pub chose_right : (0 < i.0 → ⊥) → (a : NodeNo) → a.0 ≡ word_at w p.0 (edges_word + 1) → (n : NodeNo) → n.0 ≡ node → Some (Right (record { parent = p; at = record { 0 = 0 }; left = n; right = a })) ≡ chosen m.way m.tree
    chose_right o a ea n en = go m.way m.tree m.free m.held m.full m.node_is (sym hung ∙ e)
      where
        by : {h : ℕ} (f : ℕ) (l r : List (Item (Tree (suc h)))) (c : Ctx (suc (suc h))) (t : Tree (suc h)) (free : List ℕ) → HoleIn w g (under (record { no = f; left = l; right = r }) c) t free → FullCtx (under (record { no = f; left = l; right = r }) c) → t.no ≡ node → p.0 ≡ f → i.0 ≡ length l
            → Some (Right (record { parent = p; at = record { 0 = 0 }; left = n; right = a })) ≡ sibling f l t r
        by f (x ∷ l) r c t free H u q ep ei = absurd (o (omega arith))
        by f [] [] c t free H u q ep ei = absurd (omega (arith, len_some c (0 + 0) u.0))
        by f [] (x ∷ r) c t free H u q ep ei =
            let u : a.0 ≡ x.edge.no = rw ep at ea ∙ right_sibling f x r c t free H in
            let v : n.0 ≡ t.no = en ∙ sym q in
            λ j. Some (Right (record { parent = record { 0 = ep j }; at = record { 0 = 0 }; left = record { 0 = v j }; right = record { 0 = u j } }))

        go : {h : ℕ} (c : Ctx (suc h)) (t : Tree (suc h)) (free : List ℕ) → HoleIn w g c t free → FullCtx c → t.no ≡ node → hangs c ≡ Some (p, i) → Some (Right (record { parent = p; at = record { 0 = 0 }; left = n; right = a })) ≡ chosen c t
        go top t free H u q e = let z : ◌≡◌ {A = ℕ} 0 1 = cc in absurd (omega arith)
        go (under f c) t free H u q e =
            let ep : p.0 ≡ f.no = sym (same_node e) in
            let ei : i.0 ≡ length f.left = sym (same_place e) in
            by f.no f.left f.right c t free H u q ep ei
