-- A merge and a move between two children: links, what is kept, what the three nodes hold.
-- Assumes nothing.
use mathlib.Core.Path.{◌≡◌, refl, ap, ◌∙◌}
use mathlib.Core.Logic.{◌⊎◌, inl, inr}
use mathlib.Core.List.{List, [], ◌∷◌, ◌++◌}
use Prim.Native.Nat.{ℕ, zero, suc, ◌+◌, ◌≤◌, ◌<◌}
use native.Mathlib.Nat.{not-suc-le-zero}
use native.Mathlib.Decide.{dec_lt}
use native.Mathlib.Omega.{arith}
use lib.ListN.{length, take, drop, get_or, set, length-take}
use lib.Seq.{get_or-take}
use Rattle.model.specs.Lists.{All, one, times}
use Rattle.model.specs.Layout.{NodeVal, nth}
use Rattle.model.specs.Nodes.{returned}
use Rattle.model.specs.Words.{chain_blocks}
use Rattle.model.proofs.Held.{Written}
use Rattle.model.proofs.Lists.{times_append}
use Rattle.slices.specs.Words.{remove_at}
use Rattle.node.specs.Reading.{pair_at}
use Rattle.store.specs.Links.{Body, body_of, with_body, relink_from, Frees}
use Rattle.store.proofs.Returns.{return_chain}
use Rattle.leaf.specs.Pairs.{with_pairs}
use Rattle.balance.specs.Moves.{joined_pairs, joined_edges, merged_bodies, merged_links, merge_nodes, moved_bodies, move_nodes}
use Rattle.standing.specs.Kept.{Child, Links, leads, Edged, In, LinksBut, Bodied, Kept}
use Rattle.standing.proofs.Leads.{one_self, times_parts, times_removed, links_edged}
use Rattle.standing.proofs.Relinks.{relink_edged, relinked, links_all}
use Rattle.standing.proofs.Changes.{Relinked, relinked_one, relinked_trans, kept_relinked, kept_trans, kept_more, bodied_child, bodied_edged}
use Rattle.standing.proofs.Freed.{frees_kept, return_kept}
use Rattle.shrinking.proofs.Three.{Siblings, three_p, three_l, three_r, three_leads, Which, is_p, is_l, is_r, none_of, which, three_bodied}

get_d_left : (a b : List ℕ) (j : ℕ) → j < length a → get_or (a ++ b) j 0 ≡ get_or a j 0
get_d_left [] b j h = absurd (not-suc-le-zero h)
get_d_left (x ∷ a) b zero h = refl
get_d_left (x ∷ a) b (suc j) h = get_d_left a b j (omega arith)

removed_low : (l : List ℕ) (k j : ℕ) → j < k → k < length l → get_or (remove_at l k) j 0 ≡ get_or l j 0
unfolding remove_at
removed_low [] k j o h = absurd (not-suc-le-zero h)
removed_low (x ∷ l) zero j o h = absurd (not-suc-le-zero o)
removed_low (x ∷ l) (suc k) zero o h = refl
removed_low (x ∷ l) (suc k) (suc j) o h = removed_low l k j (omega arith) (omega arith)

module _ (ns : List NodeVal) (L : Links ns) (p i l r : ℕ) (B : Siblings ns p i l r) where
  abbrev pub P : NodeVal
  P = nth ns p

  abbrev pub A : NodeVal
  A = nth ns l

  abbrev pub Z : NodeVal
  Z = nth ns r

  -- ---- merged

  abbrev P₁ : NodeVal
  P₁ = with_body P (remove_at P.pairs i) (remove_at P.edges (i + 1))

  abbrev A₁ : NodeVal
  A₁ = with_body A (joined_pairs ns p i l r) (joined_edges ns l r)

  abbrev Z₁ : NodeVal
  Z₁ = with_body Z [] []

  abbrev mid : List NodeVal
  mid = merged_bodies ns p i l r

  at_p : nth mid p ≡ P₁
  at_p = three_p ns p i l r B P₁ A₁ Z₁

  at_l : nth mid l ≡ A₁
  at_l = three_l ns p i l r B P₁ A₁ Z₁

  at_r : nth mid r ≡ Z₁
  at_r = three_r ns p i l r B P₁ A₁ Z₁

  mid_bodied : Bodied ns mid (p ∷ l ∷ r ∷ [])
  mid_bodied = three_bodied ns p i l r B P₁ A₁ Z₁ refl refl refl refl refl refl

  mid_leads : (c : ℕ) → leads c mid + one r c ≡ leads c ns
  mid_leads c =
      let a = three_leads ns p i l r B P₁ A₁ Z₁ c in
      let b = times_removed c P.edges (i + 1) B.inside in
      let d = ap (λ (t : ℕ). one t c) B.right_is in
      omega (arith, times_append c A.edges Z.edges)

  mid_edged : Edged mid
  mid_edged = bodied_edged ns mid (p ∷ l ∷ r ∷ []) mid_bodied (λ c. omega (arith, mid_leads c)) (links_edged ns L)

  mid_but : LinksBut (record { no = l; from = length A.edges } ∷ record { no = p; from = i + 1 } ∷ []) mid
  mid_but q j h = go (which ns p i l r B P₁ A₁ Z₁ q) (dec_lt j (i + 1)) (dec_lt j (length A.edges))
    where
      go : Which ns p i l r B P₁ A₁ Z₁ q → Dec (j < i + 1) → Dec (j < length A.edges) → In (record { no = l; from = length A.edges } ∷ record { no = p; from = i + 1 } ∷ []) q j ⊎ Child mid q j (get_or (nth mid q).edges j 0)
      go (is_p e) (no d) b = inl (inr (inl (e, omega arith)))
      go (is_p e) (yes o) b = inr (rw (e, at_p, removed_low P.edges (i + 1) j o B.inside) (bodied_child ns mid (p ∷ l ∷ r ∷ []) p j _ mid_bodied (L p j (omega (arith, B.inside)))))
      go (is_l e) a (no d) = inl (inl (e, omega arith))
      go (is_l e) a (yes o) = inr (rw (e, at_l, get_d_left A.edges Z.edges j o) (bodied_child ns mid (p ∷ l ∷ r ∷ []) l j _ mid_bodied (L l j o)))
      go (is_r e) a b = absurd (not-suc-le-zero (rw (e, at_r) at h))
      go (none_of z) a b =
          let w = mid_bodied.others q z in
          inr (rw w (bodied_child ns mid (p ∷ l ∷ r ∷ []) q j _ mid_bodied (L q j (rw w at h))))

  abbrev mid₁ : List NodeVal
  mid₁ = relink_from mid l (length A.edges)

  abbrev mid₂ : List NodeVal
  mid₂ = merged_links ns p i l r

  mid₂_re : Relinked mid mid₂
  mid₂_re = relinked_trans (relinked_one mid l (length A.edges)) (relinked_one mid₁ p (i + 1))

  mid₂_links : Links mid₂
  mid₂_links = links_all mid₂ (relinked mid₁ (relink_edged mid mid_edged l (length A.edges)) p (i + 1) [] (relinked mid mid_edged l (length A.edges) (record { no = p; from = i + 1 } ∷ []) mid_but))

  mid₂_kept : Kept ns mid₂ (p ∷ l ∷ r ∷ []) []
  mid₂_kept = kept_relinked ns mid mid₂ (p ∷ l ∷ r ∷ []) L B.few mid_bodied mid₂_re (λ q. omega (arith, mid_leads q)) mid₂_links

  r_unled : leads r mid₂ ≡ 0
  r_unled = omega (arith, mid₂_re.leading r, mid_leads r, (links_edged ns L).once r, one_self r)

  mid₂_states : (q : ℕ) → (nth mid₂ q).state ≡ (nth ns q).state
  mid₂_states q = ap (λ (b : Body). b.state) (mid₂_re.bodies q) ∙ mid_bodied.states q

  module _ {h : List ℕ} (free : List ℕ) (F : Frees h ns free) (z : (q : ℕ) → times q free + times q (p ∷ l ∷ r ∷ []) ≤ 1) where
    -- the free nodes stand as they did when r comes to them
    pub merge_frees : Frees h (merged_links ns p i l r) free
    merge_frees = frees_kept free (p ∷ l ∷ r ∷ []) [] mid₂_kept z mid₂_states F

    r_in : r < length mid₂
    r_in = rw mid₂_kept.long B.right

    back : Kept mid₂ (merge_nodes free ns p i l r) (r ∷ free) (r ∷ free)
    unfolding merge_nodes
    back = return_kept mid₂ mid₂_links free merge_frees r r_in r_unled

    pub merge_kept : Kept ns (merge_nodes free ns p i l r) (p ∷ l ∷ r ∷ free) (r ∷ free)
    merge_kept =
        kept_trans (kept_more (p ∷ l ∷ r ∷ []) [] (p ∷ l ∷ r ∷ free) (r ∷ free) (λ q z. omega arith) (λ q z. refl) mid₂_kept)
        (kept_more (r ∷ free) (r ∷ free) (p ∷ l ∷ r ∷ free) (r ∷ free) (λ q z. omega arith) (λ q z. z) back)

    pub merge_chain : All (Written (merge_nodes free ns p i l r)) (chain_blocks (returned r free))
    unfolding merge_nodes
    merge_chain = return_chain mid₂ r r_in free F.rises (omega (arith, z r, one_self r)) merge_frees.chain

    pub merge_parent : body_of (nth (merge_nodes free ns p i l r) p) ≡ record { state = P.state; pairs = remove_at P.pairs i; edges = remove_at P.edges (i + 1) }
    merge_parent = back.bodies p (omega (arith, z p, one_self p)) ∙ mid₂_re.bodies p ∙ ap body_of at_p

    pub merge_left : body_of (nth (merge_nodes free ns p i l r) l) ≡ record { state = A.state; pairs = joined_pairs ns p i l r; edges = joined_edges ns l r }
    merge_left = back.bodies l (omega (arith, z l, one_self l)) ∙ mid₂_re.bodies l ∙ ap body_of at_l

  -- ---- moved

  module _ (m : ℕ) where
    abbrev P₂ : NodeVal
    P₂ = with_pairs P (set P.pairs i (pair_at (joined_pairs ns p i l r) m))

    abbrev A₂ : NodeVal
    A₂ = with_body A (take m (joined_pairs ns p i l r)) (take (m + 1) (joined_edges ns l r))

    abbrev Z₂ : NodeVal
    Z₂ = with_body Z (drop (m + 1) (joined_pairs ns p i l r)) (drop (m + 1) (joined_edges ns l r))

    abbrev via : List NodeVal
    via = moved_bodies ns p i l r m

    via_p : nth via p ≡ P₂
    via_p = three_p ns p i l r B P₂ A₂ Z₂

    via_l : nth via l ≡ A₂
    via_l = three_l ns p i l r B P₂ A₂ Z₂

    via_r : nth via r ≡ Z₂
    via_r = three_r ns p i l r B P₂ A₂ Z₂

    via_bodied : Bodied ns via (p ∷ l ∷ r ∷ [])
    via_bodied = three_bodied ns p i l r B P₂ A₂ Z₂ refl refl refl refl refl refl

    via_leads : (c : ℕ) → leads c via ≡ leads c ns
    via_leads c =
        let a = three_leads ns p i l r B P₂ A₂ Z₂ c in
        let b = times_parts c (m + 1) (joined_edges ns l r) in
        omega (arith, times_append c A.edges Z.edges)

    via_edged : Edged via
    via_edged = bodied_edged ns via (p ∷ l ∷ r ∷ []) via_bodied (λ c. omega (arith, via_leads c)) (links_edged ns L)

    via_but : LinksBut (record { no = l; from = length A.edges } ∷ record { no = r; from = 0 } ∷ []) via
    via_but q j h = go (which ns p i l r B P₂ A₂ Z₂ q) (dec_lt j (length A.edges))
      where
        go : Which ns p i l r B P₂ A₂ Z₂ q → Dec (j < length A.edges) → In (record { no = l; from = length A.edges } ∷ record { no = r; from = 0 } ∷ []) q j ⊎ Child via q j (get_or (nth via q).edges j 0)
        go (is_p e) b = inr (rw (e, via_p) (bodied_child ns via (p ∷ l ∷ r ∷ []) p j _ via_bodied (L p j (rw (e, via_p) at h))))
        go (is_l e) (no d) = inl (inl (e, omega arith))
        go (is_l e) (yes o) =
            let g : j < length (take (m + 1) (joined_edges ns l r)) = rw (e, via_l) at h in
            let k = length-take (m + 1) (joined_edges ns l r) in
            inr (rw (e, via_l, get_or-take (m + 1) (joined_edges ns l r) j 0 (omega arith), get_d_left A.edges Z.edges j o) (bodied_child ns via (p ∷ l ∷ r ∷ []) l j _ via_bodied (L l j o)))
        go (is_r e) b = inl (inr (inl (e, omega arith)))
        go (none_of z) b =
            let w = via_bodied.others q z in
            inr (rw w (bodied_child ns via (p ∷ l ∷ r ∷ []) q j _ via_bodied (L q j (rw w at h))))

    abbrev via₁ : List NodeVal
    via₁ = relink_from via l (length A.edges)

    abbrev via₂ : List NodeVal
    via₂ = relink_from via₁ r 0

    via₂_re : Relinked via via₂
    via₂_re = relinked_trans (relinked_one via l (length A.edges)) (relinked_one via₁ r 0)

    via₂_links : Links via₂
    via₂_links = links_all via₂ (relinked via₁ (relink_edged via via_edged l (length A.edges)) r 0 [] (relinked via via_edged l (length A.edges) (record { no = r; from = 0 } ∷ []) via_but))

    pub move_kept : Kept ns (move_nodes ns p i l r m) (p ∷ l ∷ r ∷ []) []
    unfolding move_nodes
    move_kept = kept_relinked ns via via₂ (p ∷ l ∷ r ∷ []) L B.few via_bodied via₂_re (λ q. omega (arith, via_leads q)) via₂_links

    pub move_parent : body_of (nth (move_nodes ns p i l r m) p) ≡ record { state = P.state; pairs = set P.pairs i (pair_at (joined_pairs ns p i l r) m); edges = P.edges }
    unfolding move_nodes
    move_parent = via₂_re.bodies p ∙ ap body_of via_p

    pub move_left : body_of (nth (move_nodes ns p i l r m) l) ≡ record { state = A.state; pairs = take m (joined_pairs ns p i l r); edges = take (m + 1) (joined_edges ns l r) }
    unfolding move_nodes
    move_left = via₂_re.bodies l ∙ ap body_of via_l

    pub move_right : body_of (nth (move_nodes ns p i l r m) r) ≡ record { state = Z.state; pairs = drop (m + 1) (joined_pairs ns p i l r); edges = drop (m + 1) (joined_edges ns l r) }
    unfolding move_nodes
    move_right = via₂_re.bodies r ∙ ap body_of via_r
