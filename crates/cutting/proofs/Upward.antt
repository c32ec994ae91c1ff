-- A turn of the cut: one node shortened and its count set right, then the node above.
-- Assumes nothing.
use Prim.Native.Nat.{ℕ, suc, ◌+◌, ◌-◌, ◌≤◌, ◌<◌}
use native.Mathlib.Omega.{arith}
use mathlib.Core.Path.{◌≡◌, sym, ap, ap₂, ◌∙◌, subst}
use mathlib.Core.List.{List, [], ◌∷◌}
use lib.Dec.{lit<}
use lib.ListN.{length, get_or, length-set}
use lib.Seq.{get_or-set_other}
use Rattle.std.specs.Prelude.{Some, None}
use Rattle.model.specs.Lists.{times}
use Rattle.model.specs.Layout.{header, height_word, word_at, parent_word, place_word, NodeVal, nth, blank, Arena}
use Rattle.model.specs.Tree.{Tree, Ctx, top, under, Whole, plug, fill}
use Rattle.model.specs.Parting.{trimmed}
use Rattle.model.proofs.Lists.{one_same}
use Rattle.node.specs.declared.NodeNo.{NodeNo}
use Rattle.node.specs.declared.Place.{Place}
use Rattle.node.specs.Reading.{Within, ascent_of}
use Rattle.node.proofs.Reading.{same_node, same_place, within, parent_is, place_is, ascent_root, ascent_edge}
use Rattle.store.proofs.Chain.{head_is}
use Rattle.standing.specs.Totals.{due, TotalsBut, with_total}
use Rattle.standing.proofs.Leads.{link_parent, link_place}
use Rattle.totals.specs.Settling.{above, Part}
use Rattle.totals.proofs.Settling.{hangs, right_part, settle_root, up_told}
use Rattle.cutting.specs.Trims.{shortened, cut_node, CutReady, spine, Goal, Trims, Trimmed}
use Rattle.cutting.proofs.Trims.{short_other, cut_inside, cut_part, cut_told, cut_ready}

abbrev pub CutCall : List ℕ → List ℕ → ℕ → ℕ → Type 0
CutCall w w' n at = (h : List ℕ) (ns : List NodeVal) → CutReady ns n at → Arena w h ns → Arena w' h (cut_node ns n at)

pub cut_long : (ns : List NodeVal) (n at : ℕ) → length (cut_node ns n at) ≡ length ns
cut_long ns n at = length-set (shortened ns n at) n (with_total (nth (shortened ns n at) n) (due (shortened ns n at) n)) ∙ length-set ns n _

cut_other : (ns : List NodeVal) (n at q : ℕ) → (q ≡ n → ⊥) → nth (cut_node ns n at) q ≡ nth ns q
cut_other ns n at q d = get_or-set_other (shortened ns n at) n q (with_total (nth (shortened ns n at) n) (due (shortened ns n at) n)) blank d ∙ short_other ns n at q d

module _ {w hd : List ℕ} {g : Goal} {n at levels : ℕ} (S : Trims w hd g n at levels) where
  abbrev m : ℕ
  m = S.frame.no

  abbrev j : ℕ
  j = length S.frame.left

  told : TotalsBut (m ∷ []) S.nodes
  told = subst (λ (k : ℕ). TotalsBut (k ∷ []) S.nodes) (sym S.node_is) S.told

  here : CutReady S.nodes m j
  here = cut_ready S.frame S.way S.tree g.free S.stand told S.arena

  pub trims_ready : CutReady S.nodes n at
  trims_ready = subst (λ (k : ℕ). CutReady S.nodes n k) S.place_is (subst (λ (k : ℕ). CutReady S.nodes k j) S.node_is here)

  module _ (w' : List ℕ) (call : CutCall w w' n at) where
    call_here : CutCall w w' m j
    call_here = subst (CutCall w w' m) (sym S.place_is) (subst (λ (k : ℕ). CutCall w w' k at) (sym S.node_is) call)

    ms : List NodeVal
    ms = cut_node S.nodes m j

    arena : Arena w' hd (cut_node S.nodes m j)
    arena = call_here hd S.nodes here S.arena

    inside : m < length (cut_node S.nodes m j)
    inside = subst (λ (k : ℕ). m < k) (sym (cut_long S.nodes m j)) here.node

    pub cut_after : Within w' n
    cut_after = subst (Within w') S.node_is (within arena m inside)

    links_are : ascent_of (word_at w' n parent_word) (word_at w' n place_word) ≡ ascent_of (nth (cut_node S.nodes m j) m).parent (nth (cut_node S.nodes m j) m).place
    links_are =
        ap (λ (k : ℕ). ascent_of (word_at w' k parent_word) (word_at w' k place_word)) (sym S.node_is)
        ∙ ap₂ ascent_of (parent_is arena m inside) (place_is arena m inside)

    others : (c : Ctx (suc S.height)) → ((q : ℕ) → times q g.left + times q (spine (under S.frame c)) ≤ 1) → (q : ℕ) → 1 ≤ times q g.left → nth (cut_node S.nodes m j) q ≡ nth g.nodes q
    others c a q u = cut_other S.nodes m j q (λ e. omega (arith, a q, one_same m q (sym e))) ∙ S.others q u

    module _ (c : Ctx (suc S.height)) (H : Part S.nodes (under S.frame c) S.tree g.free) where
      abbrev cut : Tree (suc S.height)
      cut = fill S.frame.no S.frame.left S.tree []

      P : Part (shortened S.nodes m j) c (fill S.frame.no S.frame.left S.tree []) g.free
      P = cut_part S.frame c S.tree g.free H

      T : TotalsBut (m ∷ []) (shortened S.nodes m j)
      T = cut_told S.frame c S.tree g.free H told

    pub cut_end : ascent_of (word_at w' n parent_word) (word_at w' n place_word) ≡ None → Trimmed w' hd g
    cut_end e = go S.way S.stand S.apart S.going
      where
        go : (c : Ctx (suc S.height)) → Part S.nodes (under S.frame c) S.tree g.free → ((q : ℕ) → times q g.left + times q (spine (under S.frame c)) ≤ 1) → plug (trimmed (under S.frame c)) S.tree ≡ g.whole → Trimmed w' hd g
        go top H a z = record {
          nodes = cut_node S.nodes m j;
          arena = arena;
          long = cut_long S.nodes m j ∙ S.long;
          stand = subst (λ (u : Whole). Part (cut_node S.nodes m j) (top {h = u.height}) u.root g.free) z (right_part top (cut top H) g.free (P top H));
          told = settle_root (cut top H) g.free (P top H) (T top H);
          others = others top a;
        }
        go (under f c) H a z =
            let k = (hangs f c (cut (under f c) H) g.free (right_part (under f c) (cut (under f c) H) g.free (P (under f c) H))).link in
            let b = links_are ∙ ap₂ ascent_of (link_parent k) (link_place k) ∙ ascent_edge f.no (length f.left) (λ y. omega (arith, cut_inside f c (cut (under f c) H) g.free (P (under f c) H), (P (under f c) H).few)) in
            let y : ◌≡◌ {A = ℕ} 0 1 = cc in
            absurd (omega arith)

    pub cut_on : (p : NodeNo) (i : Place) → ascent_of (word_at w' n parent_word) (word_at w' n place_word) ≡ Some (p, i) → (1 ≤ levels) × Trims w' hd g p.0 i.0 (levels - 1)
    cut_on p i e = go S.way S.stand S.apart S.going S.deep
      where
        go : (c : Ctx (suc S.height)) → Part S.nodes (under S.frame c) S.tree g.free → ((q : ℕ) → times q g.left + times q (spine (under S.frame c)) ≤ 1) → plug (trimmed (under S.frame c)) S.tree ≡ g.whole → above c ≤ levels
            → (1 ≤ levels) × Trims w' hd g p.0 i.0 (levels - 1)
        go top H a z d =
            let k = (right_part top (cut top H) g.free (P top H)).root in
            let b = links_are ∙ ascent_root _ _ (link_parent k) in
            let y : ◌≡◌ {A = ℕ} 0 1 = cc in
            absurd (omega arith)
        go (under f c) H a z d =
            let k = (hangs f c (cut (under f c) H) g.free (right_part (under f c) (cut (under f c) H) g.free (P (under f c) H))).link in
            let b = links_are ∙ ap₂ ascent_of (link_parent k) (link_place k) ∙ ascent_edge f.no (length f.left) (λ y. omega (arith, cut_inside f c (cut (under f c) H) g.free (P (under f c) H), (P (under f c) H).few)) in
            let ep : f.no ≡ p.0 = same_node (sym b ∙ e) in
            let ei : length f.left ≡ i.0 = same_place (sym b ∙ e) in (
              omega arith,
              record {
                height = suc S.height;
                frame = f;
                way = c;
                tree = cut (under f c) H;
                nodes = cut_node S.nodes m j;
                arena = arena;
                long = cut_long S.nodes m j ∙ S.long;
                stand = right_part (under f c) (cut (under f c) H) g.free (P (under f c) H);
                node_is = ep;
                place_is = ei;
                deep = omega arith;
                told = subst (λ (k : ℕ). TotalsBut (k ∷ []) (cut_node S.nodes m j)) ep (up_told f c (cut (under f c) H) g.free (P (under f c) H) (T (under f c) H));
                apart = λ q. omega (arith, a q);
                others = others (under f c) a;
                going = z;
              },
            )

-- where it begins
pub cut_begin : {w hd : List ℕ} {g : Goal} {n at : ℕ} → Trims w hd g n at (header hd height_word) → Trims w hd g n at (get_or w height_word 0)
cut_begin {w} {hd} {g} {n} {at} t = subst (Trims w hd g n at) (sym (head_is t.arena height_word (lit< tt))) t
