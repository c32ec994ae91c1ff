-- Counts after a merge, a move of pairs between neighbours, a pair taken out, a root taken off; a child's count set right below its parent.
-- Assumes nothing.
use Prim.Native.Nat.{ℕ, suc, ◌+◌, ◌≤◌, ◌<◌}
use native.Mathlib.Decide.{ℕ_discrete, dec_lt}
use native.Mathlib.Omega.{arith}
use mathlib.Core.Path.{◌≡◌, refl, sym, ap, ◌∙◌, subst}
use mathlib.Core.List.{List, [], ◌∷◌}
use lib.ListN.{length, set, take, drop, length-set}
use lib.Seq.{get_or-set_same, get_or-set_other, set_out}
use Rattle.model.specs.Lists.{All, times}
use Rattle.model.specs.Nodes.{returned}
use Rattle.model.proofs.Frees.{returned_times}
use Rattle.model.proofs.Held.{Written}
use Rattle.model.specs.Layout.{none, NodeVal, nth, blank, Arena}
use Rattle.model.specs.Tree.{Pair, Item, Tree, Frame, Ctx, top, under, fill, Twin, flat, has, has_in}
use Rattle.model.specs.Remove as model
use Rattle.model.specs.Words.{free_val, root_no, first_or, chain_blocks}
use Rattle.model.proofs.Lists.{one_same, one_other}
use Rattle.slices.specs.Words.{remove_at}
use Rattle.node.specs.Reading.{pair_at}
use Rattle.store.specs.Links.{with_body, with_edges, linked, relink, relink_from, first_free, free_nodes, return_node}
use Rattle.store.proofs.Relink.{relink_length}
use Rattle.store.proofs.Returns.{return_cases}
use Rattle.leaf.specs.Pairs.{with_pairs, remove_pair, replace_pair}
use Rattle.internal.specs.Inner as header
use Rattle.internal.specs.Inner.{popped, pop_nodes, only_child}
use Rattle.balance.specs.Moves.{Shaped, three, joined_pairs, joined_edges, merged_bodies, merged_links, merge_nodes, moved_bodies, move_nodes}
use Rattle.standing.specs.Kept.{Kept}
use Rattle.standing.specs.Standing.{numbered, Hole, Beside}
use Rattle.standing.specs.Totals.{totals, due, TotalsBut, Totals, recount}
use Rattle.standing.proofs.Leads.{one_self, link_parent}
use Rattle.standing.proofs.Totals.{changed_but, recount_up, put_other}
use Rattle.shrinking.proofs.Steps.{shaped, right_in, K, Kv, Kp, merge_step, pop_step}
use Rattle.totals.proofs.Settling.{due_flat, root_inside, hangs, part_few, right_kept, right_hole, hole_part, hole_kept, part_out}
use Rattle.totals.specs.Settling.{above, ample, Settles, Settled}
use Rattle.node.specs.Reading.{Has}

-- ---- which steps leave counts alone

abbrev pub Same : List NodeVal → List NodeVal → Type 0
Same ns ns' = (q : ℕ) → (nth ns' q).total ≡ (nth ns q).total

pub set_same : (ns : List NodeVal) (n : ℕ) (v : NodeVal) → v.total ≡ (nth ns n).total → Same ns (set ns n v)
set_same ns n v e q = go (ℕ_discrete q n) (dec_lt n (length ns))
  where
    go : Dec (q ≡ n) → Dec (n < length ns) → (nth (set ns n v) q).total ≡ (nth ns q).total
    go (yes z) (yes h) = rw z (ap (λ (v : NodeVal). v.total) (get_or-set_same ns n v blank h) ∙ e)
    go (yes z) (no d) = rw (set_out ns n v (omega arith)) refl
    go (no d) h = ap (λ (v : NodeVal). v.total) (get_or-set_other ns n q v blank d)

pub relink_same : (ns : List NodeVal) (p k : ℕ) (cs : List ℕ) → Same ns (relink ns p k cs)
relink_same ns p k [] q = refl
relink_same ns p k (c ∷ cs) q = relink_same (set ns c (linked (nth ns c) p k)) p (suc k) cs q ∙ set_same ns c (linked (nth ns c) p k) refl q

pub same_totals : (ns ns' : List NodeVal) → Same ns ns' → (cs : List ℕ) → totals ns' cs ≡ totals ns cs
same_totals ns ns' s [] = refl
same_totals ns ns' s (c ∷ cs) = omega (arith, s c, same_totals ns ns' s cs)

from_same : (ns : List NodeVal) (n k : ℕ) → Same ns (relink_from ns n k)
from_same ns n k = relink_same ns n k (drop k (nth ns n).edges)

three_same : (ns : List NodeVal) (p l r : ℕ) (P L R : NodeVal) → P.total ≡ (nth ns p).total → L.total ≡ (nth ns l).total → R.total ≡ (nth ns r).total → Same ns (three ns p l r P L R)
three_same ns p l r P L R ep el er q =
    let a = set_same ns p P ep in
    let b : Same ns (set (set ns p P) l L) = λ q. set_same (set ns p P) l L (el ∙ sym (a l)) q ∙ a q in
    set_same (set (set ns p P) l L) r R (er ∙ sym (b r)) q ∙ b q

-- a node returned: of the others, only free ones are changed
return_other : (ns : List NodeVal) (n : ℕ) → n < length ns → (free : List ℕ) (q : ℕ) → times q (n ∷ free) ≡ 0 → nth (return_node ns free n) q ≡ nth ns q
return_other ns n o free q z = return_cases ns n o (λ s. nth s q ≡ nth ns q) free
    (λ k. get_or-set_other ns n q (free_val k) blank apart)
    (λ k p i l. get_or-set_other (set ns n (free_val k)) p q (free_val n) blank (λ e. omega (arith, ap (λ (t : ℕ). times t free) e)) ∙ get_or-set_other ns n q (free_val k) blank apart)
  where
    apart : q ≡ n → ⊥
    apart e = omega (arith, one_same n q (sym e))

pub merge_total : (free : List ℕ) (ns : List NodeVal) (p i l r q : ℕ) → r < length ns → times q (r ∷ free) ≡ 0 → (nth (merge_nodes free ns p i l r) q).total ≡ (nth ns q).total
unfolding merge_nodes
merge_total free ns p i l r q o z =
    let P = with_body (nth ns p) (remove_at (nth ns p).pairs i) (remove_at (nth ns p).edges (i + 1)) in
    let L = with_body (nth ns l) (joined_pairs ns p i l r) (joined_edges ns l r) in
    let R = with_body (nth ns r) [] [] in
    let m = merged_bodies ns p i l r in
    let m₁ = relink_from m l (length (nth ns l).edges) in
    let long : length (merged_links ns p i l r) ≡ length ns = relink_length m₁ p (i + 1) (drop (i + 1) (nth m₁ p).edges) ∙ relink_length m l (length (nth ns l).edges) (drop (length (nth ns l).edges) (nth m l).edges) ∙ (length-set (set (set ns p P) l L) r R ∙ length-set (set ns p P) l L ∙ length-set ns p P) in
    ap (λ (v : NodeVal). v.total) (return_other (merged_links ns p i l r) r (omega (arith, long)) free q z)
    ∙ from_same m₁ p (i + 1) q ∙ from_same m l (length (nth ns l).edges) q
    ∙ three_same ns p l r P L R refl refl refl q

pub move_total : (ns : List NodeVal) (p i l r m : ℕ) → Same ns (move_nodes ns p i l r m)
unfolding move_nodes
move_total ns p i l r m q =
    let b = moved_bodies ns p i l r m in
    from_same (relink_from b l (length (nth ns l).edges)) r 0 q ∙ from_same b l (length (nth ns l).edges) q
    ∙ three_same ns p l r (with_pairs (nth ns p) (set (nth ns p).pairs i (pair_at (joined_pairs ns p i l r) m))) (with_body (nth ns l) (take m (joined_pairs ns p i l r)) (take (m + 1) (joined_edges ns l r))) (with_body (nth ns r) (drop (m + 1) (joined_pairs ns p i l r)) (drop (m + 1) (joined_edges ns l r))) refl refl refl q

pop_total : (hd free : List ℕ) (ns : List NodeVal) (q : ℕ) → header.root_of hd < length ns → times q (header.root_of hd ∷ free) ≡ 0 → (nth (pop_nodes hd free ns) q).total ≡ (nth ns q).total
unfolding pop_nodes
pop_total hd free ns q o z =
    let v = with_edges (nth ns (header.root_of hd)) [] in
    let m = set ns (header.root_of hd) v in
    let u = linked (nth m (only_child hd ns)) none 0 in
    ap (λ (v : NodeVal). v.total) (return_other (popped hd ns) (header.root_of hd) (rw (length-set, length-set) o) free q z)
    ∙ set_same m (only_child hd ns) u refl q ∙ set_same ns (header.root_of hd) v refl q

-- ---- the nodes of the chain are free

pub chain_free : (ns : List NodeVal) (free : List ℕ) → All (Written ns) (chain_blocks free) → (q : ℕ) → 1 ≤ times q free → nth ns q ≡ free_val (nth ns q).parent
chain_free ns [] c q u = absurd (omega arith)
chain_free ns (x ∷ free) c q u = go (ℕ_discrete x q) (chain_free ns free c.1 q)
  where
    go : Dec (x ≡ q) → (1 ≤ times q free → nth ns q ≡ free_val (nth ns q).parent) → nth ns q ≡ free_val (nth ns q).parent
    go (yes e) ih =
        let f = sym (ap (nth ns) e) ∙ c.0 in
        f ∙ ap free_val (sym (ap (λ (v : NodeVal). v.parent) f))
    go (no d) ih = ih (omega (arith, one_other x q d))

-- ---- two neighbours

module _ {h : ℕ} (c : Ctx (suc (suc h))) (n : ℕ) (l : List (Item (Tree (suc h)))) (w : Twin (Tree (suc h))) (r : List (Item (Tree (suc h)))) (free : List ℕ) {ns : List NodeVal} (B : Beside ns c n l w r free) (T : Totals ns) where
  -- merged: the left one's and the parent's may be wrong
  pub merge_told : (hd : List ℕ) → first_free hd ≡ first_or free → free_nodes hd ≡ length free → TotalsBut (w.left.no ∷ n ∷ []) (merge_nodes free ns n (length l) w.left.no w.right.no)
  merge_told hd ef en =
      let m = merge_nodes free ns n (length l) w.left.no w.right.no in
      let k = K c n l w r free B hd ef en in
      changed_but ns m (w.left.no ∷ n ∷ []) (w.right.no ∷ free) k.links (λ q u z. k.bodies q (omega arith))
      (λ q u. merge_total free ns n (length l) w.left.no w.right.no q (right_in c n l w r free B) u)
      (λ q u. chain_free m (returned w.right.no free) (merge_step c n l w r free B hd ef en).chain q (omega (arith, returned_times w.right.no q free))) T

  -- pairs moved: those of all three
  pub move_told : (m : ℕ) (o : m < length (model.join w).rest) → TotalsBut (n ∷ w.left.no ∷ w.right.no ∷ []) (move_nodes ns n (length l) w.left.no w.right.no m)
  move_told m o =
      let k = Kv c n l w r free B m o in
      changed_but ns (move_nodes ns n (length l) w.left.no w.right.no m) (n ∷ w.left.no ∷ w.right.no ∷ []) [] k.links (λ q u z. k.bodies q u) (λ q u. move_total ns n (length l) w.left.no w.right.no m q) (λ q u. absurd (omega arith)) T

-- ---- a root taken off: none

module _ {h : ℕ} (t : Tree (suc (suc h))) (free : List ℕ) {ns : List NodeVal} (H : Hole ns (top {h = suc (suc h)}) t free) (bare : t.rest ≡ []) (hd : List ℕ) (er : header.root_of hd ≡ t.no) (ef : first_free hd ≡ first_or free) (en : free_nodes hd ≡ length free) (T : Totals ns) where
  pub pop_told : Totals (pop_nodes hd free ns)
  pop_told =
      let k = Kp t free H bare hd er ef en in
      changed_but ns (pop_nodes hd free ns) [] (t.no ∷ free) k.links (λ q u z. k.bodies q z)
      (λ q u. pop_total hd free ns q (rw er (H.within t.no (omega (arith, one_self t.no)))) (rw er u))
      (λ q u. chain_free (pop_nodes hd free ns) (returned t.no free) (pop_step t free H bare hd er ef en).chain q (omega (arith, returned_times t.no q free))) T

-- ---- a child's count set right

module _ {ns : List NodeVal} {h : ℕ} (f : Frame (Tree (suc h))) (c : Ctx (suc (suc h))) (t : Tree (suc h)) (free : List ℕ) (H : Hole ns (under f c) t free) (xs : List ℕ) (T : TotalsBut (t.no ∷ f.no ∷ xs) ns) where
  pub child_shaped : Shaped ns t.no
  child_shaped = shaped ns H.links t.no (root_no h t.first) (numbered h t.rest) (root_inside (under f c) t free (hole_part (under f c) t free H)) h H.tree.0

  pub child_due : ((q : ℕ) → has q h t.first + has_in (has q h) t.rest + times q (t.no ∷ f.no ∷ xs) ≤ 1) → due ns t.no ≡ length (flat (suc h) t)
  child_due d = due_flat ns (t.no ∷ f.no ∷ xs) T h t d H.tree

  pub child_told : TotalsBut (f.no ∷ xs) (recount ns t.no)
  child_told q u =
      recount_up ns H.links t.no (f.no ∷ xs) (root_inside (under f c) t free (hole_part (under f c) t free H)) T q (subst (λ (p : ℕ). times q (p ∷ f.no ∷ xs) ≡ 0) (sym (link_parent (hangs f c t free (hole_part (under f c) t free H)).link)) (omega arith))

-- ---- in words: a child's count set right, then its parent's and by as much those above. After a merge the child is the left neighbour

abbrev pub SettleCall : List ℕ → List ℕ → ℕ → Type 0
SettleCall w w' n = (h : List ℕ) (ns : List NodeVal) → Settles h ns n → Arena w h ns → Settled w' h ns

abbrev pub SetCall : List ℕ → List ℕ → ℕ → Type 0
SetCall w w' n = (h : List ℕ) (ns : List NodeVal) → Shaped ns n → Arena w h ns → Arena w' h (recount ns n)

-- the tree at a hole, with true counts
pub record ToldIn (w hd : List ℕ) {h : ℕ} (c : Ctx h) (t : Tree h) (free : List ℕ) (many : ℕ) : Type 0 where
  pub nodes : List NodeVal
  pub arena : Arena w hd nodes
  pub stand : Hole nodes c t free
  pub long : length nodes ≡ many
  pub told : Totals nodes

module _ {w hd : List ℕ} {ns : List NodeVal} {h : ℕ} (f : Frame (Tree (suc h))) (c : Ctx (suc (suc h))) (t : Tree (suc h)) (free : List ℕ) (a : Arena w hd ns) (H : Hole ns (under f c) t free)
    (deep : above c ≤ header.height_of hd) (low : (nth ns f.no).total ≤ ample) where
  lower_few : length (flat (suc h) t) ≤ ample
  lower_few = part_few (under f c) t free a (hole_part (under f c) t free H)

  apart : f.no ≡ t.no → ⊥
  apart e = omega (arith, H.once t.no, one_self t.no, one_same f.no t.no e)

  -- the child first, where xs are other wrong ones, not below it
  module _ (xs : List ℕ) (T : TotalsBut (t.no ∷ f.no ∷ xs) ns) (dis : (q : ℕ) → has q h t.first + has_in (has q h) t.rest + times q (t.no ∷ f.no ∷ xs) ≤ 1) where
    pub lower_in : Has w (λ hd ns. Shaped ns t.no × (due ns t.no < 18446744073709551616))
    lower_in = record { head = hd; nodes = ns; arena = a; holds = (child_shaped f c t free H xs T, omega (arith, child_due f c t free H xs T dis, lower_few)) }

    pub lower_arena : (w₁ : List ℕ) → SetCall w w₁ t.no → Arena w₁ hd (recount ns t.no)
    lower_arena w₁ call = call hd ns (child_shaped f c t free H xs T) a

  pub lower_hole : Hole (recount ns t.no) (under f c) t free
  lower_hole = right_hole (under f c) t free H

  pub lower_low : (nth (recount ns t.no) f.no).total ≤ ample
  lower_low = subst (λ (k : ℕ). k ≤ ample) (sym (put_other ns t.no (due ns t.no) f.no apart)) low

  -- then the parent
  module _ (T : TotalsBut (t.no ∷ f.no ∷ []) ns) where
    pub upper_settles : Settles hd (recount ns t.no) f.no
    upper_settles = record {
      lone = record { height = suc h; way = c; tree = fill f.no f.left t f.right; free = free; stand = part_out f c t free (hole_part (under f c) t free lower_hole); node_is = refl; deep = deep; told = child_told f c t free H [] T };
      low = lower_low;
    }

    pub both_done : (w₁ w₂ : List ℕ) → SetCall w w₁ t.no → SettleCall w₁ w₂ f.no → ToldIn w₂ hd (under f c) t free (length ns)
    both_done w₁ w₂ set call =
        let S = call hd (recount ns t.no) upper_settles (set hd ns (child_shaped f c t free H [] T) a) in
        record { nodes = S.nodes; arena = S.arena; stand = hole_kept (under f c) t free S.same lower_hole; long = S.same.long ∙ (right_kept (under f c) t free (hole_part (under f c) t free H)).long; told = S.told }

-- ---- a pair taken out of a node: then its count is the only wrong one

pub removed_told : (ns : List NodeVal) (n i : ℕ) → Kept ns (remove_pair ns n i) (n ∷ []) [] → Totals ns → TotalsBut (n ∷ []) (remove_pair ns n i)
removed_told ns n i k T =
    changed_but ns (remove_pair ns n i) (n ∷ []) [] k.links (λ q u z. k.bodies q u) (λ q u. set_same ns n (with_pairs (nth ns n) (remove_at (nth ns n).pairs i)) refl q) (λ q u. absurd (omega arith)) T

-- ---- a pair replaced leaves counts true

pub replace_told : (ns : List NodeVal) (n i : ℕ) (p : Pair) → Totals ns → Totals (replace_pair ns n i p)
replace_told ns n i p T q u =
    let v = with_pairs (nth ns n) (set (nth ns n).pairs i p) in
    let s = set_same ns n v refl in
    s q ∙ T q refl ∙ ap (λ (k : ℕ). length (nth ns q).pairs + k) (sym (same_totals ns (set ns n v) s (nth ns q).edges)) ∙ sym (go (ℕ_discrete q n) (dec_lt n (length ns)))
  where
    go : Dec (q ≡ n) → Dec (n < length ns) → due (replace_pair ns n i p) q ≡ length (nth ns q).pairs + totals (replace_pair ns n i p) (nth ns q).edges
    go (yes z) (yes h) =
        let v = with_pairs (nth ns n) (set (nth ns n).pairs i p) in
        let ms = replace_pair ns n i p in
        ap (due ms) z ∙ ap (λ (x : NodeVal). length x.pairs + totals ms x.edges) (get_or-set_same ns n v blank h) ∙ ap (λ (k : ℕ). k + totals ms (nth ns n).edges) (length-set (nth ns n).pairs i p) ∙ ap (λ (r : ℕ). length (nth ns r).pairs + totals ms (nth ns r).edges) (sym z)
    go (yes z) (no d) = let ms = replace_pair ns n i p in ap (λ (x : NodeVal). length x.pairs + totals ms x.edges) (ap (λ (l : List NodeVal). nth l q) (set_out ns n (with_pairs (nth ns n) (set (nth ns n).pairs i p)) (omega arith)))
    go (no d) h = let ms = replace_pair ns n i p in ap (λ (x : NodeVal). length x.pairs + totals ms x.edges) (get_or-set_other ns n q (with_pairs (nth ns n) (set (nth ns n).pairs i p)) blank d)
